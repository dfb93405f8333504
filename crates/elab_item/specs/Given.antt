-- What the source items of a module give over the items so far.
use Rattle.std.specs.Prelude.{ℕ, List, ◌++◌, None, map}
use Rattle.cdle_model.specs.Forms.{Written}
use Rattle.scope_model.specs.Scoped.{ScopedItem}
use Rattle.elab_model.specs.Items.{item_of_source, items_of_source}
use Rattle.elab_model.specs.Questions.{Env, Finding, answer}
use Rattle.elab_model.specs.Soundness.{no_encodings}
use Rattle.elab_reduce.specs.Items.{env_of}
use Rattle.elab_tree.specs.Known.{Entry, Known}

-- an item of which no datatype is known
abbrev pub plain : Written → Entry
plain w = record { item = w; known = None }

-- the items so far with these behind them
abbrev pub with_given : Known → List Written → Known
with_given k ws = record { entries = k.entries ++ map plain ws; failed = k.failed }

-- the item that a source item gives over these items, with so many units for each question, or why there is none
abbrev pub given_one : ℕ → Env → ScopedItem → Finding Written
given_one n e i = answer e n (item_of_source e no_encodings i)

-- the items that source items give in their order, each over those before it
abbrev pub given_over : ℕ → Known → List ScopedItem → Finding (List Written)
given_over n k is = items_of_source n (env_of k) no_encodings is
