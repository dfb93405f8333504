-- Items behind others, put together.
use Rattle.std.proofs.Common.{List, [], ◌∷◌, ◌++◌, map, sym, subst, append_assoc}
use Rattle.std.proofs.lemmas.List.{append-nil}
use Rattle.cdle_model.specs.declared.grammar.Sort.{Sort}
use Rattle.scope_model.specs.Scoped.{ScopedItem}
use Rattle.scope_model.specs.ScopeNames.{Text}
use Rattle.elab_model.specs.Items.{NamesDiffer, SourceItemsFit, source_name, source_sort}

pub fit_together : (xs : List Sort) (is js : List ScopedItem) → SourceItemsFit xs is → SourceItemsFit (xs ++ map source_sort is) js → SourceItemsFit xs (is ++ js)
fit_together xs [] js h k = subst (λ (l : List Sort). SourceItemsFit l js) (append-nil xs) k
fit_together xs (i ∷ is) js h k = (h.0, fit_together (xs ++ source_sort i ∷ []) is js h.1 (subst (λ (l : List Sort). SourceItemsFit l js) (sym (append_assoc xs (source_sort i ∷ []) (map source_sort is))) k))

pub differ_together : (xs : List Text) (is js : List ScopedItem) → NamesDiffer xs is → NamesDiffer (xs ++ map source_name is) js → NamesDiffer xs (is ++ js)
differ_together xs [] js h k = subst (λ (l : List Text). NamesDiffer l js) (append-nil xs) k
differ_together xs (i ∷ is) js h k = (h.0, differ_together (xs ++ source_name i ∷ []) is js h.1 (subst (λ (l : List Text). NamesDiffer l js) (sym (append_assoc xs (source_name i ∷ []) (map source_name is))) k))
