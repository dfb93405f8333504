-- The items so far.
use Rattle.std.proofs.Common.{◌≡◌, ℕ, List, [], ◌∷◌, ◌++◌, length, Ok, refl, sym, ap, subst, Option, Some, None, true, false}
use Rattle.std.specs.Prelude.{MatchOption, is_some}
use Rattle.std.specs.Str.{IsCharBoundary, IsUtf8}
use Rattle.std.proofs.lemmas.List.{map_push}
use Rattle.cdle_model.specs.Forms.{Written, name_of}
use Rattle.cdle_model.specs.CoreTokens.{Token, Word}
use Rattle.cdle_model.specs.CoreFaults.{BadText, Unbound, WrongClass, TooDeep}
use Rattle.cdle_model.specs.Classes.{item_sort}
use Rattle.cdle_model.specs.CoreNames.{Name, with_item}
use Rattle.cdle_model.specs.CoreText.{Says}
use Rattle.cdle_model.specs.CoreReading.{item_at, head_at, Items}
use Rattle.cdle_model.proofs.CoreReads.{file_reads}
use Rattle.cdle_model.proofs.CoreRuns.{run_head_fault, run_item_fault}
use Rattle.core_tree.specs.Items.{written, all_written}
use Rattle.core_tree.specs.declared.items.CoreItem.{CoreItem}
use Rattle.core_text.specs.File.{IsFaultOf}
use Rattle.core_text.specs.Next.{IsNext}
use Rattle.core_text.specs.View.{rest, Fails, IsAt, IsNamePlace, IsPlaced}
use Rattle.core_text.specs.declared.error.CoreTextFault.{CoreTextFault}
use Rattle.core_text.specs.declared.error.CoreTextFault.TheVariants as faults
use Rattle.core_text.specs.declared.token as token

-- behind the head stand these items, and then these tokens
pub record Upto (bytes : List ℕ) (known : List Name) (is : List Written) (after : List Name) (more : List Token) : Type 0 where
  pub utf8 : IsUtf8 bytes
  pub body : List Token
  pub head : head_at (length bytes) (rest bytes 0) ≡ Ok body
  pub items : Items (length bytes) known body is after more

Items-push : (end : ℕ) (known : List Name) (ts : List Token) (is : List Written) (after : List Name) (more : List Token) (i : Written) (next : List Token)
    → Items end known ts is after more → item_at end after more ≡ Ok (i, next) → Items end known ts (is ++ i ∷ []) (with_item i after) next
Items-push end known ts [] after more i next h e = (next, rw (h.0, h.1) e, (ap (with_item i) h.0, refl))
Items-push end known ts (j ∷ is) after more i next h e = (h.0, h.1, Items-push end (with_item j known) h.0 is after more i next h.2 e)

pub head_fault : (e : CoreTextFault) (bytes : List ℕ) (known : List Name) → IsUtf8 bytes → Fails e (head_at (length bytes) (rest bytes 0)) → IsFaultOf bytes known e
head_fault faults.NoMemory bytes known u h = tt
head_fault (faults.NotUtf8 at) bytes known u h = absurd h
head_fault (faults.BadText at what) bytes known u h = (u, run_head_fault (length bytes) known (rest bytes 0) (BadText at what) h)
head_fault (faults.Unbound at) bytes known u h = (u, run_head_fault (length bytes) known (rest bytes 0) (Unbound at) h)
head_fault (faults.WrongClass at) bytes known u h = (u, run_head_fault (length bytes) known (rest bytes 0) (WrongClass at) h)
head_fault (faults.TooDeep at) bytes known u h = (u, run_head_fault (length bytes) known (rest bytes 0) (TooDeep at) h)

module _ (bytes : List ℕ) (known : List Name) (is : List Written) (after : List Name) (more : List Token) (u : Upto bytes known is after more) where
  pub item_fault : (e : CoreTextFault) → (more ≡ [] → ⊥) → Fails e (item_at (length bytes) after more) → IsFaultOf bytes known e
  item_fault faults.NoMemory here h = tt
  item_fault (faults.NotUtf8 at) here h = absurd h
  item_fault (faults.BadText at what) here h = (u.utf8, run_item_fault (length bytes) known (rest bytes 0) u.body is after more (BadText at what) u.head u.items here h)
  item_fault (faults.Unbound at) here h = (u.utf8, run_item_fault (length bytes) known (rest bytes 0) u.body is after more (Unbound at) u.head u.items here h)
  item_fault (faults.WrongClass at) here h = (u.utf8, run_item_fault (length bytes) known (rest bytes 0) u.body is after more (WrongClass at) u.head u.items here h)
  item_fault (faults.TooDeep at) here h = (u.utf8, run_item_fault (length bytes) known (rest bytes 0) u.body is after more (TooDeep at) u.head u.items here h)

  pub says : more ≡ [] → Says bytes known is
  says e = record { utf8 = u.utf8; file = file_reads (length bytes) known (rest bytes 0) u.body is after u.head (rw (← e) u.items) }

-- one more item
pub upto_more : (bytes : List ℕ) (known : List Name) (items items' : List CoreItem) (own own' : List Name) (more next : List Token) (i : CoreItem)
    → Upto bytes known (all_written items) (own ++ known) more → item_at (length bytes) (own ++ known) more ≡ Ok (written i, next)
    → items' ≡ items ++ i ∷ [] → own' ≡ record { text = name_of (written i); sort = item_sort (written i) } ∷ own → Upto bytes known (all_written items') (own' ++ known) next
upto_more bytes known items items' own own' more next i u h p q =
    rw (p, q, map_push written items i) (record { utf8 = u.utf8; body = u.body; head = u.head; items = Items-push (length bytes) known u.body (all_written items) (own ++ known) more (written i) next u.items h })

pub some_next : (bytes : List ℕ) (from : ℕ) (r : Option token.Token.Token) → is_some r ≡ true → MatchOption r (rest bytes from ≡ []) (IsNext bytes from) → rest bytes from ≡ [] → ⊥
some_next bytes from None e h g = absurd cc
some_next bytes from (Some t) e h g = let p = h.first in cc

pub none_next : (bytes : List ℕ) (from : ℕ) (r : Option token.Token.Token) → is_some r ≡ false → MatchOption r (rest bytes from ≡ []) (IsNext bytes from) → rest bytes from ≡ []
none_next bytes from None e h = h
none_next bytes from (Some t) e h = absurd cc

-- a name that is wrong stands at its token
pub placed_at : (bytes : List ℕ) (at : ℕ) (w : List ℕ) (more : List Token) (e : CoreTextFault) → IsAt at e → IsCharBoundary bytes at → rest bytes at ≡ (at, Word w) ∷ more → IsPlaced bytes e
placed_at bytes at w more (faults.Unbound here) h b t = subst (IsNamePlace bytes) (sym h) (b, w, (more, t))
placed_at bytes at w more (faults.WrongClass here) h b t = subst (IsNamePlace bytes) (sym h) (b, w, (more, t))
placed_at bytes at w more (faults.NotUtf8 here) h b t = tt
placed_at bytes at w more (faults.BadText here what) h b t = tt
placed_at bytes at w more (faults.TooDeep here) h b t = tt
placed_at bytes at w more faults.NoMemory h b t = tt
