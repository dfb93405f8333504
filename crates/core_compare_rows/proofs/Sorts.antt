-- The sorts of items with one more.
use Rattle.std.proofs.Common.{◌≡◌, ◌∙◌, List, [], ◌∷◌, ◌++◌, Result, Ok, Err, MatchResult, IfOk, ap}
use Rattle.cdle_model.specs.Classes.{item_sort, item_sorts}
use Rattle.cdle_model.specs.Forms.{Written}
use Rattle.cdle_model.specs.declared.grammar.Sort.{Sort}
use Rattle.cdle_model.proofs.Lists.{sorts-snoc}

-- where the item of that sort was added
pub one_more : {A E : Type 0} (r : Result A E) (es : List Written) (w : Written) (more : List Written) (s : Sort) → MatchResult r (λ _. more ≡ es ++ (w ∷ [])) (λ _. more ≡ es)
    → item_sort w ≡ s → IfOk r (λ _. item_sorts more ≡ item_sorts es ++ (s ∷ []))
one_more (Ok x) es w more s e k = ap item_sorts e ∙ sorts-snoc es w ∙ ap (λ (y : Sort). item_sorts es ++ (y ∷ [])) k
one_more (Err x) es w more s e k = tt
