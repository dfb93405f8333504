-- What the calls answer.
use Rattle.std.specs.Prelude.{◌≡◌, ◌++◌, ℕ, false, true, List, Some, Result, Ok, Err, map, slice_get, take}
use Rattle.std.specs.Global.{Vec}
use Rattle.cdle_model.specs.Forms.{Written}
use Rattle.source_model.specs.Source.{Span}
use Rattle.scope_model.specs.Scoped.{ScopedItem}
use Rattle.elab_model.specs.Items.{with_items}
use Rattle.elab_model.specs.Questions.{Env, Finding, found, rejected, spent_at, too_deep}
use Rattle.elab_reduce.specs.Items.{env_of}
use Rattle.elab_tree.specs.Items.{written}
use Rattle.elab_tree.specs.Known.{Entry, Known}
use Rattle.elab_tree.specs.declared.items.OutItem.{OutItem}
use Rattle.scoped_tree.specs.Trees.{place}
use Rattle.elab_item.specs.declared.fault.ItemFault.{ItemFault}
use Rattle.elab_item.specs.declared.fault.ItemFault.TheVariants as f
use Rattle.elab_item.specs.Given.{given_one, given_over, plain, with_given}

-- ---- one item

-- the fault is what is found for the item of that number; of want of memory nothing is said
abbrev pub IsItemFault : ℕ → Finding Written → ItemFault → Type 0
IsItemFault i x (f.Reject j p w) = (j ≡ i) × (x ≡ rejected (place p) w)
IsItemFault i x (f.Spent j p) = (j ≡ i) × (x ≡ spent_at (place p))
IsItemFault i x (f.TooDeep j) = (j ≡ i) × ((p : Span) × (x ≡ too_deep p))
IsItemFault i x f.Failed = ⊥
IsItemFault i x f.NoMemory = Unit {0}

-- the answer is what the source item of that number gives over these items
abbrev pub GivesItem : ℕ → Env → ℕ → ScopedItem → Result OutItem ItemFault → Type 0
GivesItem n e i s (Ok w) = given_one n e s ≡ found (written w)
GivesItem n e i s (Err d) = IsItemFault i (given_one n e s) d

-- ---- the items of a module

-- the source items before this one give something, which is put behind the items so far, and over all these the answer to this one is x; so that to all is y
pub record EndsAt (n : ℕ) (old : Known) (entries : List Entry) (is : List ScopedItem) (i : ℕ) (x : Finding Written) (y : Finding (List Written)) : Type 0 where
  pub item : ScopedItem
  pub before : List Written
  pub there : slice_get is i ≡ Some item
  pub given : given_over n old (take i is) ≡ found before
  pub put : entries ≡ old.entries ++ map plain before
  pub answered : given_one n (with_items (env_of old) before) item ≡ x
  pub all : given_over n old is ≡ y

-- the fault is why the source items give nothing; of want of memory nothing is said
abbrev pub IsRefusal : ℕ → Known → List Entry → List ScopedItem → ItemFault → Type 0
IsRefusal n old es is (f.Reject i p w) = EndsAt n old es is i (rejected (place p) w) (rejected (place p) w)
IsRefusal n old es is (f.Spent i p) = EndsAt n old es is i (spent_at (place p)) (spent_at (place p))
IsRefusal n old es is (f.TooDeep i) = (p : Span) × EndsAt n old es is i (too_deep p) (too_deep p)
IsRefusal n old es is f.Failed = ⊥
IsRefusal n old es is f.NoMemory = Unit {0}

-- all items are given, and put behind those so far; or an earlier call on these was refused, and all is as before; or this call is refused, which they keep
abbrev pub Answers : ℕ → Known → Known → List ScopedItem → Result (Vec OutItem) ItemFault → Type 0
Answers n old new is (Ok ws) = (old.failed ≡ false) × (given_over n old is ≡ found (map written ws.items)) × (new ≡ with_given old (map written ws.items))
Answers n old new is (Err f.Failed) = (old.failed ≡ true) × (new ≡ old)
Answers n old new is (Err d) = (old.failed ≡ false) × (new.failed ≡ true) × IsRefusal n old new.entries is d
