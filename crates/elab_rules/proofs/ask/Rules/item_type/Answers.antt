use Rattle.std.proofs.Common.{Ok, Err, Some, ap, sym, ◌∙◌, subst}
use Rattle.std.proofs.lemmas.Result.{err_from_is_err_and}
use Rattle.elab_model.specs.Questions.{limited}
use Rattle.elab_model.specs.Spines.{known_of}
use Rattle.elab_tree.specs.Items.{written}
use Rattle.elab_rules.specs.Answers.{Meets}
use Rattle.elab_rules.specs.Parts.{type_known}
use Rattle.scoped_tree.specs.Trees.{place}
use Rattle.elab_rules.proofs.Steps.{given, no_memory}
use Rattle.elab_rules.proofs.Endings.{low_on, low_ends}
use Rattle.elab_rules.proofs.Looked.{item_known}
use Rattle.elab_rules.proofs.ask.Rules.item_type.Goals as goal

pub returns-then-item-len : goal.returns-then-item-len
returns-then-item-len c = no_memory _ _ _

pub returns-in_err-low-in-Def : goal.returns-in_err-low-in-Def
returns-in_err-low-in-Def c = let p = err_from_is_err_and c.from_residual.result c.from_residual.ensures.1 in rw (p.1, p.2) (subst (λ o. Meets c.args.self.now.env.now c.args.self.now.budget (type_known (place c.args.form) o) (Err c.in_err-low-in-Def.field-0.0)) (sym (item_known c.args.self.now.env.now c.args.item (written c.get.result.now) c.get.ensures ∙ ap (λ w. known_of (Some (written w))) c.in-Def.is)) (low_ends c.args.self.now.env.now c.args.self.now.budget (place c.args.form) c.in-Def.ty c.depth.result _ _ c.depth.ensures.is c.in_err-low-in-Def.ensures))

pub returns-in_err-clone-in-Def : goal.returns-in_err-clone-in-Def
returns-in_err-clone-in-Def c = let p = err_from_is_err_and c.from_residual-in_err-clone-in-Def.result c.from_residual-in_err-clone-in-Def.ensures.1 in rw (p.1, p.2) (no_memory _ _ _)

pub returns-in_ok-clone-in-Def : goal.returns-in_ok-clone-in-Def
returns-in_ok-clone-in-Def c = subst (λ o. Meets c.args.self.now.env.now c.args.self.now.budget (type_known (place c.args.form) o) (Ok c.in_ok-clone-in-Def.field-0)) (sym (item_known c.args.self.now.env.now c.args.item (written c.get.result.now) c.get.ensures ∙ ap (λ w. known_of (Some (written w))) c.in-Def.is)) (subst (λ z. Meets c.args.self.now.env.now c.args.self.now.budget (limited (place c.args.form) c.in-Def.ty) (Ok z)) (sym c.in_ok-clone-in-Def.ensures.cases) (low_on c.args.self.now.env.now c.args.self.now.budget (place c.args.form) c.in-Def.ty c.depth.result _ _ c.depth.ensures.is c.in_ok-low-in-Def.ensures (given c.args.self.now.env.now c.args.self.now.budget _)))

pub returns-in-TypeDef : goal.returns-in-TypeDef
returns-in-TypeDef c = no_memory _ _ _
