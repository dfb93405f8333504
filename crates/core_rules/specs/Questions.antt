-- What the checker's results say of the rules' questions, over the items es, with n units for each question.
use Rattle.std.specs.Prelude.{◌≡◌, ℕ, ◌+◌, Bool, true, false, List, Result, Ok, Err}
use Rattle.cdle_model.specs.declared.grammar.Sort.{Sort}
use Rattle.cdle_model.specs.Trees.{Tree}
use Rattle.cdle_model.specs.Forms.{star, Written}
use Rattle.cdle_model.specs.Classes.{TreeClass, within, Fits, item_sorts}
use Rattle.cdle_model.specs.HeadForms.{deep}
use Rattle.cdle_model.specs.Derivation.{bodies, signature}
use Rattle.cdle_model.specs.Fitting.{IsErased}
use Rattle.cdle_model.specs.Check.{Reason, Questions, ask_same, ask_head, answer, gives, refused, halts, SpentAfter}
use Rattle.core_reduce.specs.declared.side.SideClass.{SideClass}
use Rattle.core_reduce.specs.declared.value.Value.{Value}
use Rattle.core_reduce.specs.Sides.{Sided}
use Rattle.core_reduce.specs.Values.{StandsFor}
use Rattle.core_rules.specs.declared.fault.Fault.{Fault}
use Rattle.core_rules.specs.declared.fault.Fault.TheVariants as f
use Rattle.core_rules.specs.Reasons.{IsWhy}
use Rattle.core_rules.specs.Faults.{IsRefusal}

-- at some budget the definitions refuse for this reason at this path
pub record IsRefusedAtSome (es : List Written) (q : Questions) (p : List ℕ) (r : Reason) : Type 0 where
  pub units : ℕ
  pub is : answer (bodies (signature es)) units q ≡ refused p r

-- the result is the definitions' answer at some budget; undecided, all before the place passes at some larger budget, and a question there is spent with n units
unfoldable pub Meets : List Written → ℕ → Questions → Result Tree Fault → Type 0
Meets es n q (Ok a) = (m : ℕ) × (answer (bodies (signature es)) m q ≡ gives a)
Meets es n q (Err (f.Refused p w)) = (r : Reason) × IsRefusedAtSome es q p.items r × IsWhy r w
Meets es n q (Err (f.Undecided p)) = (k : ℕ) × SpentAfter (bodies (signature es)) n (n + k) p.items q
Meets es n q (Err f.TooDeep) = (m : ℕ) × (answer (bodies (signature es)) m q ≡ halts deep)
Meets es n q (Err f.NoMemory) = Unit {0}

-- the questions of q pass up to those of q', so a result of these is one of q
abbrev pub Leads : List Written → ℕ → Questions → Questions → Type 0
Leads es n q q' = (r : Result Tree Fault) → Meets es n q' r → Meets es n q r

-- what c asks before it goes on passes, or ends it
abbrev pub Passes : {A : Type 0} → List Written → ℕ → (Questions → Questions) → Result A Fault → Type 0
Passes es n c (Ok _) = (q : Questions) → Leads es n (c q) q
Passes es n c (Err e) = (q : Questions) → Meets es n (c q) (Err e)

-- what c asks before it goes on with a tree passes and gives that tree, or ends it
abbrev pub Finds : List Written → ℕ → ((Tree → Questions) → Questions) → Result Tree Fault → Type 0
Finds es n c (Ok a) = (k : Tree → Questions) → Leads es n (c k) (k a)
Finds es n c (Err e) = (k : Tree → Questions) → Meets es n (c k) (Err e)

-- the same with the two parts of a form
abbrev pub FindsParts : List Written → ℕ → ((Tree → Tree → Questions) → Questions) → Result (Sided × Sided) Fault → Type 0
FindsParts es n c (Ok p) = (k : Tree → Tree → Questions) → Leads es n (c k) (k p.0.tree p.1.tree)
FindsParts es n c (Err e) = (k : Tree → Tree → Questions) → Meets es n (c k) (Err e)

-- a kind: what is found is `*`
abbrev pub MeetsKind : List Written → ℕ → Questions → Result (Unit {0}) Fault → Type 0
MeetsKind es n q (Ok _) = Meets es n q (Ok star)
MeetsKind es n q (Err e) = Meets es n q (Err e)

-- the two are the same, or apart, for which there may be any reason, or the question ends early
abbrev pub MeetsSame : List Written → ℕ → List ℕ → Tree → Tree → Result Bool Fault → Type 0
MeetsSame es n p a b (Ok true) = (w : Reason) (q : Questions) → Leads es n (ask_same p w a b q) q
MeetsSame es n p a b (Ok false) = (w : Reason) (q : Questions) (e : Fault) → IsRefusal p w e → Meets es n (ask_same p w a b q) (Err e)
MeetsSame es n p a b (Err e) = (w : Reason) (q : Questions) → Meets es n (ask_same p w a b q) (Err e)

-- where each variable and name of the first is used in its class, so it is in the second
abbrev pub Keeps : List Sort → Tree → Tree → Type 0
Keeps xs a b = (vs : List Sort) (c : TreeClass) → IsErased c → Fits (within vs xs) c a → Fits (within vs xs) c b

-- the head form, or the question ends early
abbrev pub MeetsHeadForm : List Written → ℕ → List ℕ → SideClass → Tree → Result Value Fault → Type 0
MeetsHeadForm es n p c a (Ok v) = (b : Tree) × StandsFor c v b × ((k : Tree → Questions) → Leads es n (ask_head p a k) (k b)) × Keeps (item_sorts es) a b
MeetsHeadForm es n p c a (Err e) = (k : Tree → Questions) → Meets es n (ask_head p a k) (Err e)
