-- What is printed step by step.
use Rattle.std.proofs.Common.{◌≡◌, ℕ, zero, suc, ◌+◌, ◌-◌, List, [], ◌∷◌, ◌++◌, Option, Some, None, Result, Ok, Err, refl, sym, subst, ap, ◌∙◌, arith, append_assoc, append-nil}
use Rattle.cdle_model.specs.Trees.{Tree}
use Rattle.cdle_model.specs.declared.grammar.Class.{Class}
use Rattle.cdle_model.specs.CoreGrammar.{pieces, Shape, form_in}
use Rattle.print_model.specs.Printed.{Text, spaced, enclosed, spelled, Printer, pieces_text, form_text, part_text}
use Rattle.print_model.proofs.FormText.{form_is}
use Rattle.elab_print.specs.declared.part.PartStop.{PartStop}
use Rattle.elab_print.specs.declared.part.PartStop.TheVariants.{TooDeep, NoMemory}
use Rattle.elab_print.specs.declared.layout.Slot.{Slot}
use Rattle.elab_print.specs.declared.layout.Slot.TheVariants.{Binder, Part, Under, Nothing}
use Rattle.elab_print.specs.declared.layout.Slots.{Slots}
use Rattle.elab_print.specs.declared.layout.Node.{Node}
use Rattle.elab_print.specs.declared.layout.Layout.{Layout}
use Rattle.elab_print.specs.declared.layout.Layout.TheVariants as layout
use Rattle.elab_print.specs.Layouts.{joined, slot_text, form_steps, head_steps, item_steps, AreSlotsOf, IsLayout, slots_in, slot_pieces, slot_parts, Stops, Prints, node_class, node_tree}

pub joined_assoc : (a b c : Text) → joined (joined a b) c ≡ joined a (joined b c)
joined_assoc (Some x) (Some y) (Some z) = ap Some (append_assoc x y z)
joined_assoc (Some x) (Some y) None = refl
joined_assoc (Some x) None c = refl
joined_assoc None b c = refl

pub stops_later : (a b : Text) (e : PartStop) → Stops b e → Stops (joined a b) e
stops_later a b NoMemory h = tt
stops_later None b TooDeep h = refl
stops_later (Some x) None TooDeep h = refl
stops_later (Some x) (Some y) TooDeep h = absurd cc

-- a step, and what is printed after it
pub prints_then : (old mid now : List ℕ) (a b : Text) (r : Result (Unit {0}) PartStop) → joined (Some old) a ≡ Some mid → Prints mid now b r → Prints old now (joined a b) r
prints_then old mid now a b (Ok u) h g = sym (joined_assoc (Some old) a b) ∙ ap (λ t. joined t b) h ∙ g
prints_then old mid now a b (Err e) h g = stops_later a b e g

-- ---- what a shape says of the text

spaced_is : (a b : Text) → spaced a b ≡ joined (joined (Some (32 ∷ [])) a) b
spaced_is (Some x) (Some y) = refl
spaced_is (Some x) None = refl
spaced_is None b = refl

nothing_first : (a : Text) → joined (Some []) a ≡ a
nothing_first (Some x) = refl
nothing_first None = refl

nothing_last : (a : Text) → joined a (Some []) ≡ a
nothing_last (Some x) = ap Some (append-nil x)
nothing_last None = refl

enclosed_is : (w : List ℕ) (a : Text) → enclosed w a ≡ joined (joined (Some (40 ∷ [])) (Some w)) (joined a (Some (41 ∷ [])))
enclosed_is w (Some x) = refl
enclosed_is w None = refl

all_slots : Printer → ℕ → List Slot → Text
all_slots print k [] = Some []
all_slots print k (s ∷ ss) = joined (slot_text print k s) (all_slots print k ss)

slots_are : (print : Printer) (k : ℕ) (ss : List Slot) → pieces_text print k (slot_pieces ss) (slot_parts ss) ≡ all_slots print k ss
unfolding all_slots
slots_are print k [] = refl
slots_are print k (Binder s ∷ ss) = spaced_is (Some (spelled k)) (pieces_text print k (slot_pieces ss) (slot_parts ss)) ∙ ap (joined (slot_text print k (Binder s))) (slots_are print k ss)
slots_are print k (Part n ∷ ss) = spaced_is (print k (node_class n) (node_tree n)) (pieces_text print k (slot_pieces ss) (slot_parts ss)) ∙ ap (joined (slot_text print k (Part n))) (slots_are print k ss)
slots_are print k (Under n ∷ ss) = spaced_is (print (k + 1) (node_class n) (node_tree n)) (pieces_text print k (slot_pieces ss) (slot_parts ss)) ∙ ap (joined (slot_text print k (Under n))) (slots_are print k ss)
slots_are print k (Nothing ∷ ss) = slots_are print k ss ∙ sym (nothing_first (all_slots print k ss))

regrouped : (a b c d e f : Text) → joined (joined a (joined b (joined c (joined d (joined e (Some [])))))) f ≡ joined (joined a b) (joined (joined c (joined d e)) f)
regrouped a b c d e f = rw nothing_last (simp joined_assoc refl)

steps_are : (print : Printer) (k : ℕ) (s : Slots) → enclosed s.word.now (pieces_text print k (slot_pieces (slots_in s)) (slot_parts (slots_in s))) ≡ form_steps print k s
unfolding all_slots
steps_are print k s =
    ap (enclosed s.word.now) (slots_are print k (slots_in s)) ∙ enclosed_is s.word.now (all_slots print k (slots_in s))
    ∙ ap (joined (joined (Some (40 ∷ [])) (Some s.word.now))) (regrouped (slot_text print k s.first) (slot_text print k s.second) (slot_text print k s.third) (slot_text print k s.fourth) (slot_text print k s.fifth) (Some (41 ∷ [])))

-- the slots of a form are those of its pieces
shape_steps : (print : Printer) (k : ℕ) (f : Shape) (s : Slots) → AreSlotsOf s (Some f) → enclosed f.word (pieces_text print k (pieces f.form) f.parts) ≡ form_steps print k s
shape_steps print k f s h = rw (h.0, h.1, h.2) (steps_are print k s)

-- where no parenthesis may open, a form has no text
pub form_too_deep : (names : List (List ℕ)) (left k : ℕ) (c : Class) (t : Tree) (o : Layout) (s : Slots) → IsLayout c t o → o ≡ layout.Form s → left ≡ 0 → part_text names left k c t ≡ None
unfolding form_text
form_too_deep names left k c t o s h e z = rw z (by_shape (form_in c t) refl (subst (IsLayout c t) e h))
  where
    by_shape : (x : Option Shape) → form_in c t ≡ x → AreSlotsOf s x → part_text names 0 k c t ≡ None
    by_shape None g a = absurd a
    by_shape (Some f) g a = form_is names 0 k c t f g

-- else it has that of its slots
pub form_printed : (names : List (List ℕ)) (left k : ℕ) (c : Class) (t : Tree) (o : Layout) (s : Slots) → IsLayout c t o → o ≡ layout.Form s → (left ≡ 0 → ⊥)
    → part_text names left k c t ≡ form_steps (part_text names (left - 1)) k s
unfolding form_text
form_printed names zero k c t o s h e z = absurd (z refl)
form_printed names (suc left) k c t o s h e z = by_shape (form_in c t) refl (subst (IsLayout c t) e h)
  where
    by_shape : (x : Option Shape) → form_in c t ≡ x → AreSlotsOf s x → part_text names (suc left) k c t ≡ form_steps (part_text names (suc left - 1)) k s
    by_shape None g a = absurd a
    by_shape (Some f) g a =
        let less : suc left - 1 ≡ left = omega arith in
        form_is names (suc left) k c t f g ∙ rw less (shape_steps (part_text names left) k f s a)

-- ---- items

pub item_is : (print : Printer) (w x : List ℕ) (a b : Node) → item_steps print w x a b ≡ joined (enclosed w (spaced (Some x) (spaced (print 0 (node_class a) (node_tree a)) (spaced (print 0 (node_class b) (node_tree b)) (Some []))))) (Some (10 ∷ []))
item_is print w x a b =
    ap (joined (head_steps w x)) (joined_assoc (slot_text print 0 (Part a)) (slot_text print 0 (Part b)) (Some (41 ∷ 10 ∷ [])))
    ∙ chain (print 0 (node_class a) (node_tree a)) (print 0 (node_class b) (node_tree b))
  where
    chain : (p q : Text) → joined (joined (joined (Some (40 ∷ [])) (Some w)) (joined (Some (32 ∷ [])) (Some x))) (joined (joined (Some (32 ∷ [])) p) (joined (joined (Some (32 ∷ [])) q) (Some (41 ∷ 10 ∷ []))))
        ≡ joined (enclosed w (spaced (Some x) (spaced p (spaced q (Some []))))) (Some (10 ∷ []))
    chain (Some p) (Some q) =
        let end : List ℕ = 41 ∷ 10 ∷ [] in
        let last : (32 ∷ (q ++ [])) ++ end ≡ 32 ∷ (q ++ end) = ap (λ y. 32 ∷ (y ++ end)) (append-nil q) in
        let next : (32 ∷ (p ++ (32 ∷ (q ++ [])))) ++ end ≡ 32 ∷ (p ++ (32 ∷ (q ++ end))) = ap (λ y. 32 ∷ y) (append_assoc p (32 ∷ (q ++ [])) end ∙ ap (λ y. p ++ y) last) in
        let all : (32 ∷ (x ++ (32 ∷ (p ++ (32 ∷ (q ++ [])))))) ++ end ≡ 32 ∷ (x ++ (32 ∷ (p ++ (32 ∷ (q ++ end)))))
        = ap (λ y. 32 ∷ y) (append_assoc x (32 ∷ (p ++ (32 ∷ (q ++ [])))) end ∙ ap (λ y. x ++ y) next) in
        let body : List ℕ = 32 ∷ (x ++ (32 ∷ (p ++ (32 ∷ (q ++ []))))) in
        ap (λ y. Some (40 ∷ y)) (append_assoc w (32 ∷ x) (32 ∷ (p ++ (32 ∷ (q ++ end))))
        ∙ sym (append_assoc w (body ++ (41 ∷ [])) (10 ∷ []) ∙ ap (λ y. w ++ y) (append_assoc body (41 ∷ []) (10 ∷ []) ∙ all)))
    chain (Some p) None = refl
    chain None q = refl
