-- What follows from what is answered.
use Rattle.std.proofs.Common.{◌≡◌, ℕ, ◌+◌, List, length, Result, Ok, Err, IfOk, refl, sym, ap, subst, ◌∙◌, arith}
use Rattle.cdle_model.specs.Trees.{Tree}
use Rattle.cdle_model.specs.Forms.{Written}
use Rattle.cdle_model.specs.HeadForms.{deep}
use Rattle.cdle_model.specs.Classes.{AreScoped}
use Rattle.cdle_model.specs.Derivation.{signature, AreDerived}
use Rattle.cdle_model.specs.Check.{Questions, infer_item, ListVerdict, accepts, refuses, spends, ends, duplicate, check_items}
use Rattle.cdle_model.proofs.CheckLargerBudget.{list-stays}
use Rattle.cdle_model.proofs.ItemsChecked.{accepted-derived, refused-lost, duplicate-lost}
use Rattle.cdle_model.proofs.Undecided.{undecided-spent}
use Rattle.core_tree.specs.declared.faults.Checked.{Checked}
use Rattle.core_tree.specs.declared.faults.CoreFault.{CoreFault}
use Rattle.core_tree.specs.declared.faults.CoreFault.TheVariants as fault
use Rattle.core_rules.specs.declared.fault.Fault.{Fault}
use Rattle.core_rules.specs.declared.fault.Fault.TheVariants as f
use Rattle.core_rules.specs.Faults.{IsOfItem}
use Rattle.core_rules.specs.Questions.{Leads, Meets, Passes}
use Rattle.core_check.specs.Answer.{IsAnswerAtSome, HaveNoDerivation, AgreesWith, IsItemAnswerAtSome, MeetsItem}

-- an item, whose last question is asked with nothing to follow
pub item_meets : (es : List Written) (n : ℕ) (q k : Questions) (c : Questions → Questions) (r : Result (Unit {0}) Fault) (a : Tree) → Leads es n q (c k) → Meets es n k (Ok a) → Passes es n c r → MeetsItem es n q r
item_meets es n q k c (Ok x) a l m p = (a, l (Ok a) (p k (Ok a) m))
item_meets es n q k c (Err e) a l m p = l (Err e) (p k)

-- of one item
pub item_found : (n : ℕ) (es : List Written) (w : Written) → MeetsItem es n (infer_item (signature es) w) (Ok tt) → IsItemAnswerAtSome n es w (Ok tt)
unfolding Meets
item_found n es w (a, (m, h)) = (m, a, h)

pub item_fault : (n : ℕ) (es : List Written) (w : Written) (i : ℕ) (e : Fault) (x : CoreFault) → i ≡ length es → IsOfItem i e x → MeetsItem es n (infer_item (signature es) w) (Err e) → IsItemAnswerAtSome n es w (Err x)
unfolding Meets
item_fault n es w i (f.Refused p why) (fault.Refused j q v) c o (r, h, k) = (o.0 ∙ c, h.units, r, rw o.1 h.is, rw o.2 k)
item_fault n es w i (f.Undecided p) (fault.Undecided j q) c o (k, h) = (o.0 ∙ c, k, rw o.1 h)
item_fault n es w i f.TooDeep (fault.TooDeep j) c o (m, h) = (o ∙ c, m, h)
item_fault n es w i f.NoMemory fault.NoMemory c o h = tt
item_fault n es w i e x c o h = absurd o

-- what is accepted has a derivation
pub derived : (n : ℕ) (ws : List Written) (r : Result Checked CoreFault) → AreScoped ws → IsAnswerAtSome n ws r → IfOk r (λ c. AreDerived ws)
derived n ws (Ok c) h (count, m, e) = accepted-derived ws h m e
derived n ws (Err f) h a = tt

-- what is refused has none
pub none : (n : ℕ) (ws : List Written) (r : Result Checked CoreFault) → AreScoped ws → IsAnswerAtSome n ws r → HaveNoDerivation ws r
none n ws (Ok c) h a = tt
none n ws (Err fault.NoMemory) h a = tt
none n ws (Err (fault.Refused i path why)) h (m, r, e, k) = refused-lost ws h m i path r e
none n ws (Err (fault.Duplicate i earlier)) h (m, e) = duplicate-lost ws h m i earlier e
none n ws (Err (fault.Undecided i path)) h a = tt
none n ws (Err (fault.TooDeep i)) h a = tt

-- where two budgets are not spent, they say the same
IsFirm : ListVerdict → Type 0
IsFirm v = (i : ℕ) (p : List ℕ) → v ≡ spends i p → ⊥

settled : (n m : ℕ) (ws : List Written) (u v : ListVerdict) → check_items n ws ≡ u → IsFirm u → check_items m ws ≡ v → IsFirm v → u ≡ v
unfolding IsFirm
settled n m ws u v d x e y = let c : n + m ≡ m + n = omega arith in sym (list-stays n m ws u d x) ∙ ap (λ (k : ℕ). check_items k ws) c ∙ list-stays m n ws v e y

agree : (n m : ℕ) (ws : List Written) (u v : ListVerdict) (r : Result Checked CoreFault) → check_items n ws ≡ u → check_items m ws ≡ v → IsFirm v → AgreesWith v r → AgreesWith u r
unfolding IsFirm
agree n m ws accepts v r d e y h = subst (λ (z : ListVerdict). AgreesWith z r) (sym (settled n m ws accepts v d (λ i p k. absurd cc) e y)) h
agree n m ws (refuses i p w) v r d e y h = subst (λ (z : ListVerdict). AgreesWith z r) (sym (settled n m ws (refuses i p w) v d (λ j q k. absurd cc) e y)) h
agree n m ws (ends i x) v r d e y h = subst (λ (z : ListVerdict). AgreesWith z r) (sym (settled n m ws (ends i x) v d (λ j q k. absurd cc) e y)) h
agree n m ws (duplicate i j) v r d e y h = subst (λ (z : ListVerdict). AgreesWith z r) (sym (settled n m ws (duplicate i j) v d (λ k q l. absurd cc) e y)) h
agree n m ws (spends i p) v r d e y h = tt

no_memory : (v : ListVerdict) → AgreesWith v (Err fault.NoMemory)
no_memory accepts = tt
no_memory (refuses i p w) = tt
no_memory (spends i p) = tt
no_memory (ends i h) = tt
no_memory (duplicate i j) = tt

-- what is answered is what the plain check at this budget says, unless that is spent
pub agrees : (n : ℕ) (ws : List Written) (r : Result Checked CoreFault) → IsAnswerAtSome n ws r → AgreesWith (check_items n ws) r
unfolding IsFirm
agrees n ws (Ok c) (count, m, e) = agree n m ws (check_items n ws) accepts (Ok c) refl e (λ i p k. absurd cc) tt
agrees n ws (Err fault.NoMemory) a = no_memory (check_items n ws)
agrees n ws (Err (fault.Refused i path why)) (m, r, e, k) = agree n m ws (check_items n ws) (refuses i path r) (Err (fault.Refused i path why)) refl e (λ j p l. absurd cc) (refl, refl, k)
agrees n ws (Err (fault.Duplicate i earlier)) (m, e) = agree n m ws (check_items n ws) (duplicate i earlier) (Err (fault.Duplicate i earlier)) refl e (λ j p l. absurd cc) (refl, refl)
agrees n ws (Err (fault.TooDeep i)) (m, e) = agree n m ws (check_items n ws) (ends i deep) (Err (fault.TooDeep i)) refl e (λ j p l. absurd cc) refl
agrees n ws (Err (fault.Undecided i path)) (k, h) = let (j, p, e) = undecided-spent n k ws i path h in subst (λ (v : ListVerdict). AgreesWith v (Err (fault.Undecided i path))) (sym e) tt
