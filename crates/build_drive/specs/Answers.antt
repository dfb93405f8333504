-- The outcomes of `core`, each with its cause.
use Rattle.std.specs.Prelude.{◌≡◌, ◌+◌, ◌<◌, ◌≤◌, ◌++◌, ℕ, List, [], length}
use Rattle.std.specs.Str.{IsValidUpTo}
use Rattle.cdle_folder.specs.Files.{Bytes}
use Rattle.cdle_model.specs.CoreFaults.{BadText, Unbound, WrongClass, TooDeep}
use Rattle.cdle_model.specs.CoreNames.{Name, with_items}
use Rattle.cdle_model.specs.CoreText.{Says}
use Rattle.cdle_model.specs.CoreTokens.{IsWordAt}
use Rattle.cdle_model.specs.CoreWants.{IsFirstFault}
use Rattle.cdle_model.specs.Forms.{Written}
use Rattle.cdle_model.specs.Report.{wanted_word}
use Rattle.cdle_model.specs.declared.grammar.CoreWanted.{CoreWanted}
use Rattle.cdle_model.specs.declared.grammar.Count.TheVariants.{Bytes as OfBytes, Nesting, Items}
use Rattle.build_drive.specs.Traces.{Trace, no_more, absent, too_long, unread, ending, contents}
use Rattle.build_outcome.specs.declared.outcome.Badness.{Badness}
use Rattle.build_outcome.specs.declared.outcome.Badness.TheVariants as bad
use Rattle.build_outcome.specs.declared.outcome.Outcome.{Outcome}
use Rattle.build_outcome.specs.declared.outcome.Outcome.TheVariants as outcome

-- the names of these items, the latest first
abbrev pub item_names : List Written → List Name
item_names es = with_items es []

-- behind items of these names the bytes are no text of the grammar and its scope, since this is wrong at that byte, and nothing before it
abbrev pub IsMalformed : List Name → Bytes → ℕ → Badness → Type 0
IsMalformed known bytes at bad.NotUtf8 = IsValidUpTo bytes at
IsMalformed known bytes at (bad.Wanted word) = (what : CoreWanted) × (word ≡ wanted_word what) × IsFirstFault bytes known (BadText at what)
IsMalformed known bytes at (bad.Unbound name) = IsWordAt bytes at name × IsFirstFault bytes known (Unbound at)
IsMalformed known bytes at (bad.WrongClass name) = IsWordAt bytes at name × IsFirstFault bytes known (WrongClass at)
IsMalformed known bytes at what = ⊥

-- the most items of all files
abbrev pub most_items : ℕ
most_items = 10000

-- behind items of these names the file's bytes end the call: they are no text, or nest too deep, or say items past the limit
abbrev pub IsEnd : List Name → Bytes → Bytes → Outcome → Type 0
IsEnd known file bytes (outcome.Malformed name at what) = (name ≡ file) × IsMalformed known bytes at what
IsEnd known file bytes (outcome.Limit name Nesting) = (name ≡ file) × (at : ℕ) × IsFirstFault bytes known (TooDeep at)
IsEnd known file bytes (outcome.Limit name Items) = (name ≡ file) × (ws : List Written) × Says bytes known ws × (most_items < length known + length ws)
IsEnd known file bytes o = ⊥

-- the outcome where the next file ended the call
abbrev pub IsStopped : List Name → Trace → Outcome → Type 0
IsStopped known (absent file) (outcome.Missing name) = name ≡ file
IsStopped known (too_long file) (outcome.Limit name OfBytes) = name ≡ file
IsStopped known (unread file) (outcome.ReadFault name) = name ≡ file
IsStopped known (ending file bytes) o = IsEnd known file bytes o
IsStopped known s o = ⊥

-- The outcome of a trace, behind the items es of the files before, where these are the outcomes of the check. Each file that was read to
-- its end says items behind the earlier ones, and all of them are checked.
abbrev pub IsOutcome : (List Written → Outcome → Type 0) → List Written → Trace → Outcome → Type 0
IsOutcome Verdict es no_more o = Verdict es o
IsOutcome Verdict es (contents file bytes rest) o =
    (ws : List Written) × Says bytes (item_names es) ws × (length es + length ws ≤ most_items) × IsOutcome Verdict (es ++ ws) rest o
IsOutcome Verdict es s o = IsStopped (item_names es) s o
