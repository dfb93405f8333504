use Rattle.std.proofs.Common.{◌∷◌, refl}
use Rattle.source_model.specs.Grammar.{part}
use Rattle.source_model.specs.Grammar as m
use Rattle.source_model.specs.Made.{made}
use Rattle.source_model.specs.Parsing.{complaint}
use Rattle.surf_tree.specs.Forms.{class_tree}
use Rattle.surf_reader.specs.View.{fits}
use Rattle.surf_reader.proofs.Rules.{product_ends}
use Rattle.surf_reader.proofs.reader.Reader.arrow_end.Goals as goal

pub returns : goal.returns
unfolding made complaint
returns c =
    λ d. product_ends c.args.self.now (λ t vs. part c.args.begin (class_tree t) ∷ vs) c.product.result m.Arrow (fits c.args.first (class_tree c.args.domain.now) (class_tree c.args.part.now)) _
    (λ at vs. refl)
    (λ p q. let h = c.product.ensures.fitting in rw q at h)
    (λ e q. let h = c.product.ensures.refused in rw q at h)
    (λ p q vs. let h = c.product.ensures.tree in let t = rw q at h in rw (t, c.over_classes.ensures) refl)
