-- What the answers of head reduction say, by the definition of head forms.
use Rattle.std.specs.Prelude.{◌≡◌, ◌⊎◌, ℕ, ◌≤◌, ◌<◌, List, Result, Ok, Err}
use Rattle.cdle_model.specs.Trees.{Tree}
use Rattle.cdle_model.specs.Forms.{fn}
use Rattle.cdle_model.specs.Depth.{depth}
use Rattle.cdle_model.specs.Machine.{answered, spent}
use Rattle.cdle_model.specs.HeadForms.{deep, value, no_value, head_form}
use Rattle.elab_tree.specs.declared.stop.TreeStop.{TreeStop}
use Rattle.elab_tree.specs.declared.stop.TreeStop.TheVariants as t
use Rattle.elab_convert.specs.declared.side.Arg.{Arg}
use Rattle.elab_convert.specs.declared.side.HeadForm.{HeadForm}
use Rattle.elab_convert.specs.declared.head.HeadMove.{HeadMove}
use Rattle.elab_convert.specs.declared.head.HeadMove.TheVariants as m
use Rattle.elab_convert.specs.declared.stop.ConvertStop.{ConvertStop}
use Rattle.elab_convert.specs.declared.stop.ConvertStop.TheVariants.{Spent, TooDeep, NoMemory}
use Rattle.elab_convert.specs.Formers.{IsFormer}
use Rattle.elab_convert.specs.Sides.{erased_tree, spine, root_tree, form_tree, IsForm}

abbrev pub convert_stop : TreeStop → ConvertStop
convert_stop t.TooDeep = TooDeep
convert_stop t.NoMemory = NoMemory

-- why there is no head form
abbrev pub IsNoHead : List Tree → ℕ → Tree → ConvertStop → Type 0
IsNoHead s n t Spent = head_form s n t ≡ spent
IsNoHead s n t TooDeep = (left : ℕ) × (head_form s n t ≡ answered (no_value deep) left)
IsNoHead s n t NoMemory = Unit {0}

-- the answer is that of the definition with these units, and so many are left
abbrev pub IsHead : List Tree → ℕ → Tree → ℕ → Result HeadForm ConvertStop → Type 0
IsHead s n t left (Ok h) = ((head_form s n t ≡ answered (value (form_tree h)) left) × (left ≤ n)) × IsForm h
IsHead s n t left (Err e) = IsNoHead s n t e

-- one move of the code: the head form of what stands after it, with the units that are left, is that of what stood before; and it comes nearer to its end
abbrev pub Moved : List Tree → Tree → List Arg → ℕ → Tree → List Arg → ℕ → Type 0
Moved s h xs old r ys new = (head_form s old (spine h xs) ≡ head_form s new (spine r ys)) × (((new < old) × (depth r ≤ 32768)) ⊎ ((new ≡ old) × (depth r < depth h)))

abbrev pub IsMove : List Tree → Tree → List Arg → ℕ → List Arg → ℕ → Result HeadMove ConvertStop → Type 0
IsMove s h xs old ys new (Ok (m.To r)) = Moved s h xs old (erased_tree r) ys new
IsMove s h xs old ys new (Ok (m.Function b)) = (head_form s old (spine h xs) ≡ answered (value (fn b)) new) × (new ≡ old)
IsMove s h xs old ys new (Ok (m.Root r)) = (head_form s old (spine h xs) ≡ answered (value (spine (root_tree r) ys)) new) × (new ≡ old)
IsMove s h xs old ys new (Ok m.Former) = ((head_form s old (spine h xs) ≡ answered (value (spine h ys)) new) × (new ≡ old)) × IsFormer h
IsMove s h xs old ys new (Err e) = IsNoHead s old (spine h xs) e
