-- How the check stands after some of the items.
use Rattle.std.proofs.Common.{◌≡◌, inl, inr, ℕ, suc, ◌+◌, Bool, true, false, cond, Decides, List, [], ◌∷◌, ◌++◌, length, Option, Some, None, option_map, Ok, Err, refl, sym, ap, subst, ◌∙◌, arith}
use Rattle.std.specs.Str.{bytes_eq}
use Rattle.std.proofs.lemmas.Slice.Eq.{bytes_eq-Decides}
use Rattle.std.proofs.lemmas.List.{append_assoc, append-nil}
use Rattle.cdle_model.specs.Trees.{Tree}
use Rattle.cdle_model.specs.Forms.{Written, name_of}
use Rattle.cdle_model.specs.HeadForms.{deep}
use Rattle.cdle_model.specs.Classes.{IsScopedOver, AreScopedOver}
use Rattle.cdle_model.specs.Derivation.{bodies, signature}
use Rattle.cdle_model.specs.Check.{first_of}
use Rattle.cdle_model.specs.Check.{Finding, gives, refused, halts, infer_item, by_name, by_finding, check_item, check_after, check_items, SpentAfter, UndecidedAfter, IsUndecided}
use Rattle.core_tree.specs.declared.faults.Checked.{Checked}
use Rattle.core_tree.specs.declared.faults.CoreFault.{CoreFault}
use Rattle.core_tree.specs.declared.faults.CoreFault.TheVariants as fault
use Rattle.core_check.specs.Answer.{IsFaultOf, IsAnswerAtSome, IsItemAnswerAtSome}
use Rattle.core_rules.proofs.Passing.{IsFirm, firm_more, spent_more}

-- ---- names

-- the last item's number, where it alone has the name
abbrev or_last : Option ℕ → Bool → ℕ → Option ℕ
or_last (Some e) b n = Some e
or_last None b n = cond b (Some n) None

or_last_more : (b : Bool) (o : Option ℕ) (same : Bool) (n : ℕ) → cond b (Some 0) (option_map suc (or_last o same n)) ≡ or_last (cond b (Some 0) (option_map suc o)) same (suc n)
or_last_more true o same n = refl
or_last_more false (Some e) same n = refl
or_last_more false None true n = refl
or_last_more false None false n = refl

first_more : (q : List ℕ) (es : List Written) (w : Written) → first_of q (es ++ (w ∷ [])) ≡ or_last (first_of q es) (bytes_eq (name_of w) q) (length es)
first_more q [] w = refl
first_more q (e ∷ es) w = ap (λ (o : Option ℕ). cond (bytes_eq (name_of e) q) (Some 0) (option_map suc o)) (first_more q es w) ∙ or_last_more (bytes_eq (name_of e) q) (first_of q es) (bytes_eq (name_of w) q) (length es)

no_last : (o : Option ℕ) (n : ℕ) → o ≡ or_last o false n
no_last None n = refl
no_last (Some e) n = refl

-- the numbers of names after an item with a new name
named_more : (q : List ℕ) (es : List Written) (w : Written) (old new : Option ℕ) → first_of (name_of w) es ≡ None → old ≡ first_of q es → new ≡ cond (bytes_eq (name_of w) q) (Some (length es)) old
    → new ≡ first_of q (es ++ (w ∷ []))
named_more q es w old new fresh before step = step ∙ decided (bytes_eq (name_of w) q) (bytes_eq-Decides (name_of w) q) ∙ sym (first_more q es w)
  where
    decided : (b : Bool) → Decides b (name_of w ≡ q) → cond b (Some (length es)) old ≡ or_last (first_of q es) b (length es)
    decided true d = let none : first_of q es ≡ None = subst (λ (x : List ℕ). first_of x es ≡ None) (d.0 refl) fresh in ap (λ (o : Option ℕ). or_last o true (length es)) (sym none)
    decided false d = before ∙ no_last (first_of q es) (length es)

-- ---- items that pass

-- with these units or more, the items pass: the plain check says of items after them what it says of those over them
pub record Passed (n : ℕ) (es : List Written) : Type 0 where
  pub units : ℕ
  pub answers : (k : ℕ) (ws : List Written) → check_items (units + k) (es ++ ws) ≡ check_after (units + k) es ws
  pub undecided : (k : ℕ) (ws : List Written) (i : ℕ) (p : List ℕ) → UndecidedAfter n (units + k) es ws i p → IsUndecided n (units + k) (es ++ ws) i p

-- what is found of an item stays with more units
finding_more : (es : List Written) (w : Written) (m k : ℕ) (x : Finding) → IsFirm x → check_item m es w ≡ x → check_item (k + m) es w ≡ x
finding_more es w m k x f e = let c : k + m ≡ m + k = omega arith in rw c (firm_more (bodies (signature es)) m k (infer_item (signature es) w) x f e)

-- the items before a new one pass, and something of it is found
at_item : (n : ℕ) (es : List Written) (w : Written) (ws : List Written) (m : ℕ) (x : Finding) (p : Passed n es) → first_of (name_of w) es ≡ None → IsFirm x → check_item m es w ≡ x
    → check_items (p.units + m) (es ++ (w ∷ ws)) ≡ by_finding (length es) x (check_after (p.units + m) (es ++ (w ∷ [])) ws)
at_item n es w ws m x p new f e =
    p.answers m (w ∷ ws) ∙ ap (λ (o : Option ℕ). by_name (length es) o (by_finding (length es) (check_item (p.units + m) es w) (check_after (p.units + m) (es ++ (w ∷ [])) ws))) new
    ∙ ap (λ (r : Finding). by_finding (length es) r (check_after (p.units + m) (es ++ (w ∷ [])) ws)) (finding_more es w m p.units x f e)

one_more_passes : (n : ℕ) (es : List Written) (w : Written) (m : ℕ) (a : Tree) → Passed n es → first_of (name_of w) es ≡ None → check_item m es w ≡ gives a → Passed n (es ++ (w ∷ []))
one_more_passes n es w m a p new e = record {
  units = p.units + m;
  answers = λ k ws.
      let c : p.units + m + k ≡ p.units + (m + k) = omega arith in
      rw (c, append_assoc es (w ∷ []) ws) (at_item n es w ws (m + k) (gives a) p new tt (firm_more (bodies (signature es)) m k (infer_item (signature es) w) (gives a) tt e));
  undecided = λ k ws i r h.
      let c : p.units + m + k ≡ p.units + (m + k) = omega arith in
      rw (c, append_assoc es (w ∷ []) ws) (p.undecided (m + k) (w ∷ ws) i r (new, inr ((a, finding_more es w (m + k) p.units (gives a) tt (firm_more (bodies (signature es)) m k (infer_item (signature es) w) (gives a) tt e)), subst (λ (z : ℕ). UndecidedAfter n z (es ++ (w ∷ [])) ws i r) c h)));
}

-- ---- the check so far

-- after the items `es`, before the items `rest`: the earlier items have these names and pass
pub record Standing (n : ℕ) (ws es rest : List Written) (names : List ℕ → Option ℕ) : Type 0 where
  pub whole : ws ≡ es ++ rest
  pub named : (q : List ℕ) → names q ≡ first_of q es
  pub over : AreScopedOver es rest
  pub passed : Passed n es

-- the next item
module _ (n : ℕ) (ws es rest : List Written) (names : List ℕ → Option ℕ) (w : Written) (more : List Written) (s : Standing n ws es rest names) (e : rest ≡ w ∷ more) where
  whole_is : ws ≡ es ++ (w ∷ more)
  whole_is = s.whole ∙ ap (λ (l : List Written). es ++ l) e

  over_is : AreScopedOver es (w ∷ more)
  over_is = subst (AreScopedOver es) e s.over

  new_is : (q : List ℕ) → q ≡ name_of w → names q ≡ None → first_of (name_of w) es ≡ None
  new_is q named found = ap (λ (x : List ℕ). first_of x es) (sym named) ∙ sym (s.named q) ∙ found

  pub is_over : IsScopedOver es w
  is_over = over_is.0

  -- an earlier item has its name
  pub taken : (i k : ℕ) (q : List ℕ) → i ≡ length es → q ≡ name_of w → names q ≡ Some k → IsFaultOf n ws (fault.Duplicate i k)
  taken i k q count named found =
      let u = s.passed.units in
      let name : first_of (name_of w) es ≡ Some k = ap (λ (x : List ℕ). first_of x es) (sym named) ∙ sym (s.named q) ∙ found in
      (u + 0, rw (whole_is, count) (s.passed.answers 0 (w ∷ more) ∙ ap (λ (o : Option ℕ). by_name (length es) o (by_finding (length es) (check_item (u + 0) es w) (check_after (u + 0) (es ++ (w ∷ [])) more))) name))

  -- it has a new name, and is not accepted
  pub faulted : (q : List ℕ) (f : CoreFault) → q ≡ name_of w → names q ≡ None → IsItemAnswerAtSome n es w (Err f) → IsFaultOf n ws f
  faulted q fault.NoMemory named found h = tt
  faulted q (fault.Refused i path why) named found (count, m, r, h, k) =
      (s.passed.units + m, r, rw (whole_is, count) (at_item n es w more m (refused path r) s.passed (new_is q named found) tt h), k)
  faulted q (fault.Undecided i path) named found (count, k, h) =
      let u = s.passed.units in
      let c : n + k + u ≡ u + (n + k) = omega arith in
      let d : u + (n + k) ≡ n + (u + k) = omega arith in
      let here = subst (λ (z : ℕ). SpentAfter (bodies (signature es)) n z path (infer_item (signature es) w)) c (spent_more (bodies (signature es)) n (n + k) u path (infer_item (signature es) w) h) in
      let all : IsUndecided n (u + (n + k)) (es ++ (w ∷ more)) i path = s.passed.undecided (n + k) (w ∷ more) i path (new_is q named found, inl (count, here)) in
      (u + k, rw whole_is (subst (λ (z : ℕ). IsUndecided n z (es ++ (w ∷ more)) i path) d all))
  faulted q (fault.TooDeep i) named found (count, m, h) =
      (s.passed.units + m, rw (whole_is, count) (at_item n es w more m (halts deep) s.passed (new_is q named found) tt h))
  faulted q (fault.Duplicate i k) named found h = absurd h

  -- it has a new name, and is accepted
  found_more : (q : List ℕ) → q ≡ name_of w → names q ≡ None → IsItemAnswerAtSome n es w (Ok tt) → Passed n (es ++ (w ∷ []))
  found_more q named found (m, a, h) = one_more_passes n es w m a s.passed (new_is q named found) h

  pub advanced : (q : List ℕ) (es_new : List Written) (names_new : List ℕ → Option ℕ) → q ≡ name_of w → names q ≡ None → IsItemAnswerAtSome n es w (Ok tt) → es_new ≡ es ++ (w ∷ [])
      → ((x : List ℕ) → names_new x ≡ cond (bytes_eq (name_of w) x) (Some (length es)) (names x)) → Standing n ws es_new more names_new
  advanced q es_new names_new named found h grown step = subst (λ (l : List Written). Standing n ws l more names_new) (sym grown) (record {
    whole = whole_is ∙ sym (append_assoc es (w ∷ []) more);
    named = λ x. named_more x es w (names x) (names_new x) (new_is q named found) (s.named x) (step x);
    over = over_is.1;
    passed = found_more q named found h;
  })

pub finished : (n : ℕ) (ws es rest : List Written) (names : List ℕ → Option ℕ) (c : Checked) → Standing n ws es rest names → rest ≡ [] → c.items ≡ length es → IsAnswerAtSome n ws (Ok c)
finished n ws es rest names c s e count =
    let whole : ws ≡ es ++ [] = s.whole ∙ ap (λ (l : List Written). es ++ l) e in
    let none : es ++ [] ≡ es = append-nil es in
    (count ∙ ap length (sym none) ∙ ap length (sym whole), s.passed.units + 0, rw whole (s.passed.answers 0 []))
