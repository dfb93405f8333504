-- What the printer's layouts mean, and what a call that prints has added.
use Rattle.std.specs.Prelude.{◌≡◌, ℕ, ◌+◌, List, [], ◌∷◌, ◌++◌, Option, Some, None, Result, Ok, Err}
use Rattle.cdle_model.specs.Trees.{Tree, Leaf, var, name, leaf}
use Rattle.cdle_model.specs.Forms.{Written}
use Rattle.cdle_model.specs.declared.grammar.Class.{Class}
use Rattle.cdle_model.specs.declared.grammar.Class.TheVariants as class
use Rattle.cdle_model.specs.declared.grammar.Piece.{Piece}
use Rattle.cdle_model.specs.declared.grammar.Piece.TheVariants as piece
use Rattle.cdle_model.specs.CoreGrammar.{pieces, Shape, form_in}
use Rattle.print_model.specs.Printed.{Text, spelled, Printer}
use Rattle.elab_tree.specs.declared.items.OutItem.{OutItem}
use Rattle.elab_tree.specs.Items.{written}
use Rattle.elab_print.specs.declared.layout.Node.{Node}
use Rattle.elab_print.specs.declared.layout.Node.TheVariants.{Kind, Ty, Term, Pure, Guide, GuideKind}
use Rattle.elab_print.specs.declared.layout.Slot.{Slot}
use Rattle.elab_print.specs.declared.layout.Slot.TheVariants.{Binder, Part, Under, Nothing}
use Rattle.elab_print.specs.declared.layout.Slots.{Slots}
use Rattle.elab_print.specs.declared.layout.Layout.{Layout}
use Rattle.elab_print.specs.declared.layout.Layout.TheVariants.{Var, Name, Star, Form}
use Rattle.elab_print.specs.declared.part.PartStop.{PartStop}
use Rattle.elab_print.specs.declared.part.PartStop.TheVariants.{TooDeep, NoMemory}
use Rattle.elab_print.specs.declared.text.PrintFault.{PrintFault}
use Rattle.elab_print.specs.declared.text.PrintFault.TheVariants as fault

abbrev pub node_class : Node → Class
node_class (Kind t) = class.Kind
node_class (Ty t) = class.Ty
node_class (Term t) = class.Term
node_class (Pure t) = class.Pure
node_class (Guide t) = class.Guide
node_class (GuideKind t) = class.GuideKind

abbrev pub node_tree : Node → Tree
node_tree (Kind t) = t.now
node_tree (Ty t) = t.now
node_tree (Term t) = t.now
node_tree (Pure t) = t.now
node_tree (Guide t) = t.now
node_tree (GuideKind t) = t.now

-- the pieces and the parts of a form that stand in these slots
abbrev pub slot_pieces : List Slot → List Piece
slot_pieces [] = []
slot_pieces (Binder s ∷ ss) = piece.Binder s ∷ slot_pieces ss
slot_pieces (Part n ∷ ss) = piece.Part (node_class n) ∷ slot_pieces ss
slot_pieces (Under n ∷ ss) = piece.Under (node_class n) ∷ slot_pieces ss
slot_pieces (Nothing ∷ ss) = slot_pieces ss

abbrev pub slot_parts : List Slot → List Tree
slot_parts [] = []
slot_parts (Part n ∷ ss) = node_tree n ∷ slot_parts ss
slot_parts (Under n ∷ ss) = node_tree n ∷ slot_parts ss
slot_parts (s ∷ ss) = slot_parts ss

abbrev pub slots_in : Slots → List Slot
slots_in s = s.first ∷ s.second ∷ s.third ∷ s.fourth ∷ s.fifth ∷ []

-- a form of the grammar has this word, and in these slots its pieces and its parts
abbrev pub AreSlotsOf : Slots → Option Shape → Type 0
AreSlotsOf s None = ⊥
AreSlotsOf s (Some f) = (f.word ≡ s.word.now) × (f.parts ≡ slot_parts (slots_in s)) × (pieces f.form ≡ slot_pieces (slots_in s))

-- the layout is that of the tree in its class
abbrev pub IsLayout : Class → Tree → Layout → Type 0
IsLayout c t (Var i) = t ≡ var i
IsLayout c t (Name n) = t ≡ name n
IsLayout c t Star = (l : Leaf) × (t ≡ leaf l)
IsLayout c t (Form s) = AreSlotsOf s (form_in c t)

-- ---- what was added

-- two texts behind each other
abbrev pub joined : Text → Text → Text
joined (Some x) (Some y) = Some (x ++ y)
joined (Some x) None = None
joined None y = None

-- what stands in a slot, with the space before it
abbrev pub slot_text : Printer → ℕ → Slot → Text
slot_text print k (Binder s) = joined (Some (32 ∷ [])) (Some (spelled k))
slot_text print k (Part n) = joined (Some (32 ∷ [])) (print k (node_class n) (node_tree n))
slot_text print k (Under n) = joined (Some (32 ∷ [])) (print (k + 1) (node_class n) (node_tree n))
slot_text print k Nothing = Some []

-- a form step by step
abbrev pub front_text : Printer → ℕ → Slots → Text
front_text print k s = joined (slot_text print k s.first) (slot_text print k s.second)

abbrev pub back_text : Printer → ℕ → Slots → Text
back_text print k s = joined (slot_text print k s.third) (joined (slot_text print k s.fourth) (slot_text print k s.fifth))

abbrev pub form_steps : Printer → ℕ → Slots → Text
form_steps print k s = joined (joined (Some (40 ∷ [])) (Some s.word.now)) (joined (front_text print k s) (joined (back_text print k s) (Some (41 ∷ []))))

-- an item step by step
abbrev pub head_steps : List ℕ → List ℕ → Text
head_steps w x = joined (joined (Some (40 ∷ [])) (Some w)) (joined (Some (32 ∷ [])) (Some x))

abbrev pub both_text : Printer → Node → Node → Text
both_text print a b = joined (slot_text print 0 (Part a)) (slot_text print 0 (Part b))

abbrev pub item_steps : Printer → List ℕ → List ℕ → Node → Node → Text
item_steps print w x a b = joined (head_steps w x) (joined (both_text print a b) (Some (41 ∷ 10 ∷ [])))

-- a call stopped because the text nests too deep, or for want of memory, which may come at any text
abbrev pub Stops : Text → PartStop → Type 0
Stops t TooDeep = t ≡ None
Stops t NoMemory = Unit {0}

-- from the bytes `old` on, a call came to `now`: it added the text, or it stopped
abbrev pub Prints : List ℕ → List ℕ → Text → Result (Unit {0}) PartStop → Type 0
Prints old now t (Ok _) = joined (Some old) t ≡ Some now
Prints old now t (Err e) = Stops t e

-- ---- files

-- bytes before the lines that follow
abbrev pub before_lines : List ℕ → Result (List ℕ) ℕ → Result (List ℕ) ℕ
before_lines x (Ok y) = Ok (x ++ y)
before_lines x (Err n) = Err n

-- the text ends in the item of that number, which nests too deep; memory may be wanted at any text
abbrev pub IsFaultOf : Result (List ℕ) ℕ → PrintFault → Type 0
IsFaultOf r (fault.TooDeep n) = r ≡ Err n
IsFaultOf r fault.NoMemory = Unit {0}

abbrev pub all_written : List OutItem → List Written
all_written [] = []
all_written (i ∷ is) = written i ∷ all_written is
