-- A text without a fault says items.
use Rattle.std.proofs.Common.{◌≡◌, ◌⊎◌, inl, inr, ℕ, zero, suc, ◌<◌, ◌≤◌, false, List, [], ◌∷◌, length, Option, Result, Ok, Err, refl, sym, subst, ◌∙◌, arith}
use Rattle.std.specs.Str.{IsUtf8}
use Rattle.cdle_model.specs.declared.grammar.Class.{Class}
use Rattle.cdle_model.specs.declared.grammar.Piece.{Piece}
use Rattle.cdle_model.specs.Trees.{Tree}
use Rattle.cdle_model.specs.Forms.{Written}
use Rattle.cdle_model.specs.CoreTokens.{Token, tokens}
use Rattle.cdle_model.specs.CoreFaults.{Fault}
use Rattle.cdle_model.specs.CoreNames.{Name, Names, with_item}
use Rattle.cdle_model.specs.CoreText.{Meaning, Reads, star, name, form, ReadsPieces, end, bind, part, inner, Stands, ReadsItem, ReadsFile, Says}
use Rattle.cdle_model.specs.CoreReading.{item_at, head_at, Items}
use Rattle.cdle_model.specs.CoreWants.{MoreItems, start, rest_or_fault, IsFirstFault}
use Rattle.cdle_model.proofs.CoreReads.{bind_ok, item_reads, file_reads}
use Rattle.cdle_model.proofs.CoreRuns.{run_item, run_head}

-- fewer tokens follow
mutual
  part_shorter : {Means : Meaning} {left : ℕ} {scope : Names} {c : Class} {ts : List Token} {t : Tree} {rest : List Token} → Reads Means left scope c ts t rest → length rest < length ts
  part_shorter (star n e) = omega arith
  part_shorter (name n e h) = omega arith
  part_shorter (form e h) = let le = pieces_shorter h in omega arith

  pieces_shorter : {Means : Meaning} {left : ℕ} {scope : Names} {binder : Option Name} {ps : List Piece} {ts : List Token} {us : List Tree} {rest : List Token} → ReadsPieces Means left scope binder ps ts us rest → length rest ≤ length ts
  pieces_shorter end = omega arith
  pieces_shorter (bind e h) = let le = pieces_shorter h in omega arith
  pieces_shorter (part h g) = let lt = part_shorter h in let le = pieces_shorter g in omega arith
  pieces_shorter (inner h g) = let lt = part_shorter h in let le = pieces_shorter g in omega arith

item_shorter : (left : ℕ) (names : List Name) (ts : List Token) (i : Written) (rest : List Token) → ReadsItem Stands left names ts i rest → length rest < length ts
item_shorter left names ts i rest h = let le = pieces_shorter h.parts in subst (λ (us : List Token). length rest < length us) (sym h.tokens) (omega arith)

-- tokens that have no fault where items are wanted are items, at most as many as tokens
items_whole : (last n : ℕ) (names : List Name) (ts left : List Token) → length ts ≤ n → rest_or_fault last (MoreItems names ∷ []) ts ≡ Ok left → (is : List Written) × (after : List Name) × Items last names ts is after []
items_whole last n names [] left le e = ([], names, (refl, refl))
items_whole last zero names (t ∷ ts) left le e = absurd (omega arith)
items_whole last (suc n) names (t ∷ ts) left le e =
    let item = bind_ok (item_at last names (t ∷ ts)) (λ i. rest_or_fault last (MoreItems (with_item i.0 names) ∷ []) i.1) left (sym (run_item last names (t ∷ ts) (λ none. cc)) ∙ e) in
    let shorter = item_shorter 1023 names (t ∷ ts) item.0.0 item.0.1 (item_reads last names (t ∷ ts) item.0 item.1) in
    let others = items_whole last n (with_item item.0.0 names) item.0.1 left (omega arith) item.2 in
    (item.0.0 ∷ others.0, others.1, (item.0.1, item.1, others.2))

file_whole : (last : ℕ) (names : List Name) (ts left : List Token) → rest_or_fault last (start names) ts ≡ Ok left → (is : List Written) × ReadsFile Stands 1023 names ts is
file_whole last names ts left e =
    let head = bind_ok (head_at last ts) (λ body. rest_or_fault last (MoreItems names ∷ []) body) left (sym (run_head last names ts) ∙ e) in
    let items = items_whole last (length head.0) names head.0 left (omega arith) head.2 in
    (items.0, file_reads last names ts head.0 items.0 items.1 head.1 items.2)

pub said_or_faulty : (bytes : List ℕ) (known : List Name) → IsUtf8 bytes → (r : Result (List Token) Fault) → rest_or_fault (length bytes) (start known) (tokens false 0 bytes) ≡ r
    → ((is : List Written) × Says bytes known is) ⊎ ((f : Fault) × IsFirstFault bytes known f)
said_or_faulty bytes known utf8 (Ok left) e = let said = file_whole (length bytes) known (tokens false 0 bytes) left e in inl (said.0, record { utf8 = utf8; file = said.1 })
said_or_faulty bytes known utf8 (Err f) e = inr (f, (utf8, e))
