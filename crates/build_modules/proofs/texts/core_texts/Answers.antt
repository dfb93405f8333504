use Rattle.std.proofs.Common.{◌∙◌, None, ap, sym}
use Rattle.modules_model.specs.ModuleTexts.{by_count, texts_answer}
use Rattle.build_modules.specs.Ordered.{in_order, spelled_modules}
use Rattle.build_modules.proofs.Ends.{answer_as}
use Rattle.build_modules.proofs.texts.core_texts.Goals as goal

pub returns-in-None-clause-answers : goal.returns-in-None-clause-answers
returns-in-None-clause-answers c =
    let ms = in_order (spelled_modules c.args.names.now c.args.modules.now) c.args.order.now in
    answer_as (by_count c.args.budget ms None) (texts_answer c.args.budget ms) c.resolved_texts.result (ap (by_count c.args.budget ms) (sym c.in-None.is ∙ c.in_ok-module.ensures c.args.names.now)) c.resolved_texts.ensures.answers
