use Rattle.std.proofs.Common.{◌+◌, ◌*◌}
use Rattle.cdle_model.specs.Depth.{depth}
use Rattle.cdle_model.specs.Forms.{allt, kpi, kpit, on, pi}
use Rattle.core_view.proofs.guide_put.+put.Given as goal

abbrev pub decreases-put_type : goal.decreases-put_type
decreases-put_type l = 2 * depth l.ty.now + 1

abbrev pub decreases-put_kind : goal.decreases-put_kind
decreases-put_kind l = 2 * depth l.kind.now + 1

abbrev pub decreases-put_product : goal.decreases-put_product
decreases-put_product l = 2 * depth (pi l.domain.now l.inner.now)

abbrev pub decreases-put_allt : goal.decreases-put_allt
decreases-put_allt l = 2 * depth (allt l.domain.now l.inner.now)

abbrev pub decreases-put_on : goal.decreases-put_on
decreases-put_on l = 2 * depth (on l.head.now l.arg.now)

abbrev pub decreases-put_kpi : goal.decreases-put_kpi
decreases-put_kpi l = 2 * depth (kpi l.domain.now l.inner.now)

abbrev pub decreases-put_kpit : goal.decreases-put_kpit
decreases-put_kpit l = 2 * depth (kpit l.domain.now l.inner.now)
