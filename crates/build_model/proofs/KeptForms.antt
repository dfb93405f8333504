-- One part has the forms of another.
use Rattle.std.proofs.Common.{◌≡◌, Bool, inl, inr, sym, ◌∙◌}
use Rattle.cdle_model.specs.Classes.{TreeClass, terms}
use Rattle.source_model.specs.Source.{Source}
use Rattle.source_model.specs.Heights.{is_none}
use Rattle.build_model.proofs.Forms.{Place, must, may, empty, Places, nowhere, both, AtPlace, AtPlaces, IfTerm, HasForm}

pub if_term : (c : TreeClass) (P Q : Type 0) → (P → Q) → IfTerm c P → IfTerm c Q
if_term terms P Q f h = f h
if_term c P Q f h = absurd h

at_place : (x : Place) (a b : Bool) (P Q : TreeClass → Type 0) → a ≡ b → ((c : TreeClass) → P c → Q c) → AtPlace x a P → AtPlace x b Q
at_place (must c) a b P Q e f h = f c h
at_place (may c) a b P Q e f (inl n) = inl (sym e ∙ n)
at_place (may c) a b P Q e f (inr p) = inr (f c p)
at_place empty a b P Q e f h = sym e ∙ h

abbrev pub IsKept : {B N C M : Type 0} → Source B N → Source C M → Type 0
IsKept t v = (is_none t ≡ is_none v) × ((c : TreeClass) → HasForm c t → HasForm c v)

pub both_kept : {B N C M : Type 0} (l : Places) (t : Source B N) (v : Source C M) (u : Source B N) (w : Source C M) → IsKept t v → IsKept u w
    → AtPlaces l (is_none t) (λ d. HasForm d t) (is_none u) (λ d. HasForm d u) → AtPlaces l (is_none v) (λ d. HasForm d v) (is_none w) (λ d. HasForm d w)
both_kept nowhere t v u w k i h = h
both_kept (both x y) t v u w k i h = (at_place x (is_none t) (is_none v) (λ d. HasForm d t) (λ d. HasForm d v) k.0 k.1 h.0, at_place y (is_none u) (is_none w) (λ d. HasForm d u) (λ d. HasForm d w) i.0 i.1 h.1)
