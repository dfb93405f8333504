-- Which heads are formers.
use Rattle.std.proofs.Common.{◌≡◌, ℕ, refl}
use Rattle.cdle_model.specs.Trees.{Tree, var, name, leaf, unary, fun, apply, binary, bind}
use Rattle.cdle_model.specs.Classes.{guide_kinds, IsOf}
use Rattle.elab_tree.specs.Forms.{guide_tree}
use Rattle.elab_tree.specs.Sizes.{filled}
use Rattle.elab_tree.specs.declared.guide.EGuideForm.{EGuideForm}
use Rattle.elab_tree.specs.declared.guide.EGuideForm.TheVariants as g
use Rattle.elab_convert.specs.Formers.{IsFormer}
use Rattle.elab_convert.proofs.Steps.{IsPlain}

pub kind_is_former : (t : Tree) → IsOf guide_kinds (filled t) → IsFormer t × IsPlain t
kind_is_former (var i) h = absurd h
kind_is_former (name n) h = absurd h
kind_is_former (leaf l) h = (tt, tt)
kind_is_former (unary j p) h = (tt, tt)
kind_is_former (fun c p) h = absurd h
kind_is_former (apply c p q) h = absurd h
kind_is_former (binary j p q) h = (tt, tt)
kind_is_former (bind j p q) h = (tt, tt)

pub rest_is_former : (f : EGuideForm) → ((i : ℕ) → f ≡ g.Var i → ⊥) → ((n : ℕ) → f ≡ g.Name n → ⊥) → ((a : Tree) → f ≡ g.Tlam a → ⊥) → ((a : Tree) → f ≡ g.Xtlam a → ⊥)
    → ((a b : Tree) → f ≡ g.At a b → ⊥) → ((a b : Tree) → f ≡ g.On a b → ⊥) → IsFormer (guide_tree f) × IsPlain (guide_tree f)
rest_is_former (g.Var i) v n t x a o = absurd (v i refl)
rest_is_former (g.Name i) v n t x a o = absurd (n i refl)
rest_is_former (g.Unknown i) v n t x a o = (tt, tt)
rest_is_former (g.Pi p q) v n t x a o = (tt, tt)
rest_is_former (g.All p q) v n t x a o = (tt, tt)
rest_is_former (g.Allt p q) v n t x a o = (tt, tt)
rest_is_former (g.Tlam p) v n t x a o = absurd (t p refl)
rest_is_former (g.Xtlam p) v n t x a o = absurd (x p refl)
rest_is_former (g.At p q) v n t x a o = absurd (a p q refl)
rest_is_former (g.On p q) v n t x a o = absurd (o p q refl)
rest_is_former (g.Iota p q) v n t x a o = (tt, tt)
rest_is_former (g.Eq p q) v n t x a o = (tt, tt)
