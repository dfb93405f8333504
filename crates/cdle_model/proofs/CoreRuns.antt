-- Reading from the left finds the first fault.
use Rattle.std.proofs.Common.{◌≡◌, ℕ, zero, suc, Bool, true, false, cond, List, [], ◌∷◌, ◌++◌, Option, Some, None, Result, Ok, Err, refl, sym, ap, ◌∙◌, eqb, arith}
use Rattle.std.specs.Prelude.{codes}
use Rattle.std.specs.Str.{bytes_eq}
use Rattle.std.proofs.lemmas.List.{append-nil}
use Rattle.std.proofs.lemmas.Bool.Decides.{nat_tests}
use Rattle.cdle_model.specs.declared.grammar.Sort.{Sort}
use Rattle.cdle_model.specs.declared.grammar.Sort.TheVariants.{OfTerm, OfType}
use Rattle.cdle_model.specs.declared.grammar.Class.{Class}
use Rattle.cdle_model.specs.declared.grammar.Form.{Form}
use Rattle.cdle_model.specs.declared.grammar.Piece.{Piece}
use Rattle.cdle_model.specs.declared.grammar.Piece.TheVariants.{Binder, Part, Under}
use Rattle.cdle_model.specs.declared.grammar.CoreWanted.{CoreWanted}
use Rattle.cdle_model.specs.declared.grammar.CoreWanted.TheVariants as wanted
use Rattle.cdle_model.specs.Trees.{Tree}
use Rattle.cdle_model.specs.Forms.{Written}
use Rattle.cdle_model.specs.CoreTokens.{Opens, Closes, Word, Token}
use Rattle.cdle_model.specs.CoreFaults.{Fault, BadText, WrongClass, TooDeep, wanted_part}
use Rattle.cdle_model.specs.CoreGrammar.{form_of, name_sort, pieces, made, look_up, item_words, item_pieces, made_item}
use Rattle.cdle_model.specs.CoreNames.{Name, Names, names_under, behind, stands, same_sort, is_star, with_item, with_items}
use Rattle.cdle_model.specs.CoreText.{Stands, ReadsFile}
use Rattle.cdle_model.specs.CoreReading.{◌>>=◌, Read, Reader, name_at, close_at, found_form, form_at, known, word_with, leaf, pieces_with, part_with, form_with, inside, part_at, open_at, found_sort, sort_at, item_at, word_at, head_at, Items}
use Rattle.cdle_model.specs.CoreWants.{Want, TheWord, MoreItems, ItemWord, ItemName, PartOf, FormOf, Binding, Closing, for_pieces, OtherClass, complaint, a_word, a_form, an_item, goes_on, act, rest_or_fault, start}
use Rattle.cdle_model.proofs.CoreAgain.{file_again}

abbrev the_fault : Fault → Result (List Token) Fault
the_fault f = Err f

deep_or_bad : (b : Bool) (x y : Fault) → cond b (Err x) (Err y) ≡ the_fault (cond b x y)
deep_or_bad true x y = refl
deep_or_bad false x y = refl

run_close : (end left : ℕ) (ws : List Want) (ts : List Token) → rest_or_fault end (Closing left ∷ ws) ts ≡ (close_at end left ts >>= λ r. rest_or_fault end ws r)
unfolding rest_or_fault act close_at
run_close end left ws [] = refl
run_close end left ws ((at, Word w) ∷ ts) = refl
run_close end left ws ((at, Opens) ∷ ts) = deep_or_bad (eqb left 0) (TooDeep at) (BadText at wanted.Close)
run_close end left ws ((at, Closes) ∷ ts) = refl

if_fine : (b : Bool) (at : ℕ) (what : CoreWanted) (ws : List Want) (x : List ℕ × List Token) (next : List Want → Result (List Token) Fault) (g : List ℕ × List Token → Result (List Token) Fault)
    → next ws ≡ g x → goes_on at what (cond b None (Some (ws, None))) next ≡ (cond b (Err (BadText at what)) (Ok x) >>= g)
if_fine true at what ws x next g e = refl
if_fine false at what ws x next g e = e

run_binding : (end left : ℕ) (scope : Names) (s : Sort) (ps : List Piece) (ws : List Want) (ts : List Token)
    → rest_or_fault end (Binding left scope s ps ∷ ws) ts ≡ (name_at end left ts >>= λ x. rest_or_fault end (for_pieces left scope (Some (record { text = x.0; sort = s })) ps ++ ws) x.1)
unfolding rest_or_fault act name_at
run_binding end left scope s ps ws [] = refl
run_binding end left scope s ps ws ((at, Word w) ∷ ts) = if_fine (is_star w) at wanted.Name (for_pieces left scope (Some (record { text = w; sort = s })) ps) (w, ts) _ _ refl
run_binding end left scope s ps ws ((at, Opens) ∷ ts) = deep_or_bad (eqb left 0) (TooDeep at) (BadText at wanted.Name)
run_binding end left scope s ps ws ((at, Closes) ∷ ts) = refl

run_found : (end left at : ℕ) (scope : Names) (c : Class) (ws : List Want) (ts : List Token) (o : Option Form)
    → goes_on at (wanted_part c) (a_form left scope o) (λ front. rest_or_fault end (front ++ ws) ts) ≡ (found_form at c ts o >>= λ f. rest_or_fault end (for_pieces left scope None (pieces f.0) ++ ws) f.1)
run_found end left at scope c ws ts (Some f) = refl
run_found end left at scope c ws ts None = refl

run_form : (end left : ℕ) (scope : Names) (c : Class) (ws : List Want) (ts : List Token)
    → rest_or_fault end (FormOf left scope c ∷ ws) ts ≡ (form_at end left c ts >>= λ f. rest_or_fault end (for_pieces left scope None (pieces f.0) ++ ws) f.1)
unfolding rest_or_fault act form_at
run_form end left scope c ws [] = refl
run_form end left scope c ws ((at, Word w) ∷ ts) = run_found end left at scope c ws ts (form_of c w)
run_form end left scope c ws ((at, Opens) ∷ ts) = deep_or_bad (eqb left 0) (TooDeep at) (BadText at (wanted_part c))
run_form end left scope c ws ((at, Closes) ∷ ts) = refl

-- a reader whose faults are the first ones
abbrev IsExact : ℕ → ℕ → Reader → Type 0
IsExact end left read = (scope : Names) (c : Class) (ws : List Want) (ts : List Token) → rest_or_fault end (PartOf left scope c ∷ ws) ts ≡ (read scope c ts >>= λ x. rest_or_fault end ws x.1)

bind_step : {A B C : Type 0} (r : Result A Fault) (F : A → Result C Fault) (f : A → Result B Fault) (g : B → Result C Fault) → ((x : A) → F x ≡ (f x >>= g)) → (r >>= F) ≡ ((r >>= f) >>= g)
bind_step (Ok x) F f g h = h x
bind_step (Err e) F f g h = refl

regroup : {C : Type 0} (r : Read (List Tree)) (t : Tree) (g : List Tree × List Token → Result C Fault) → (r >>= λ us. g (t ∷ us.0, us.1)) ≡ ((r >>= λ us. Ok (t ∷ us.0, us.1)) >>= g)
regroup (Ok x) t g = refl
regroup (Err e) t g = refl

run_pieces : (end left : ℕ) (read : Reader) → IsExact end left read → (scope : Names) (binder : Option Name) (ps : List Piece) (ws : List Want) (ts : List Token)
    → rest_or_fault end (for_pieces left scope binder ps ++ ws) ts ≡ (pieces_with read end left scope binder ps ts >>= λ us. close_at end left us.1 >>= λ r. rest_or_fault end ws r)
run_pieces end left read exact scope binder [] ws ts = run_close end left ws ts
run_pieces end left read exact scope binder (Binder s ∷ ps) ws ts =
    run_binding end left scope s ps ws ts
    ∙ bind_step (name_at end left ts) _ (λ x. pieces_with read end left scope (Some (record { text = x.0; sort = s })) ps x.1) (λ us. close_at end left us.1 >>= λ r. rest_or_fault end ws r)
    (λ x. run_pieces end left read exact scope (Some (record { text = x.0; sort = s })) ps ws x.1)
run_pieces end left read exact scope binder (Part c ∷ ps) ws ts =
    exact scope c (for_pieces left scope binder ps ++ ws) ts
    ∙ bind_step (read scope c ts) _ (λ t. pieces_with read end left scope binder ps t.1 >>= λ us. Ok (t.0 ∷ us.0, us.1)) (λ us. close_at end left us.1 >>= λ r. rest_or_fault end ws r)
    (λ x. run_pieces end left read exact scope binder ps ws x.1 ∙ regroup (pieces_with read end left scope binder ps x.1) x.0 (λ us. close_at end left us.1 >>= λ r. rest_or_fault end ws r))
run_pieces end left read exact scope binder (Under c ∷ ps) ws ts =
    exact (names_under binder scope) c (for_pieces left scope binder ps ++ ws) ts
    ∙ bind_step (read (names_under binder scope) c ts) _ (λ t. pieces_with read end left scope binder ps t.1 >>= λ us. Ok (t.0 ∷ us.0, us.1)) (λ us. close_at end left us.1 >>= λ r. rest_or_fault end ws r)
    (λ x. run_pieces end left read exact scope binder ps ws x.1 ∙ regroup (pieces_with read end left scope binder ps x.1) x.0 (λ us. close_at end left us.1 >>= λ r. rest_or_fault end ws r))

abbrev done : {A : Type 0} → A → List Token → Read A
done t ts = Ok (t, ts)

abbrev failed : Fault → Read Tree
failed f = Err f

shut : {A C : Type 0} (r : Result (List Token) Fault) (t : A) (g : List Token → Result C Fault) → (r >>= g) ≡ ((r >>= λ ts. done t ts) >>= λ x. g x.1)
shut (Ok x) t g = refl
shut (Err e) t g = refl

run_inside : (end left : ℕ) (read : Reader) → IsExact end left read → (scope : Names) (c : Class) (ws : List Want) (ts : List Token)
    → rest_or_fault end (FormOf left scope c ∷ ws) ts ≡ (form_with read end left scope c ts >>= λ x. rest_or_fault end ws x.1)
unfolding form_with
run_inside end left read exact scope c ws ts =
    run_form end left scope c ws ts
    ∙ bind_step (form_at end left c ts) _ (λ f. pieces_with read end left scope None (pieces f.0) f.1 >>= λ us. close_at end left us.1 >>= λ rest. Ok (made f.0 us.0, rest)) (λ x. rest_or_fault end ws x.1)
    (λ f. run_pieces end left read exact scope None (pieces f.0) ws f.1
    ∙ bind_step (pieces_with read end left scope None (pieces f.0) f.1) _ (λ us. close_at end left us.1 >>= λ rest. Ok (made f.0 us.0, rest)) (λ x. rest_or_fault end ws x.1)
    (λ us. shut (close_at end left us.1) (made f.0 us.0) (rest_or_fault end ws)))

run_word : (end at : ℕ) (scope : Names) (c : Class) (w : List ℕ) (ws : List Want) (ts : List Token) (o : Option Sort) (b : Bool) → is_star w ≡ b
    → goes_on at (wanted_part c) (a_word scope o w) (λ front. rest_or_fault end (front ++ ws) ts) ≡ (word_with at scope c o w ts >>= λ x. rest_or_fault end ws x.1)
run_word end at scope c w ws ts None true e = rw e refl
run_word end at scope c w ws ts None false e = rw e refl
run_word end at scope c w ws ts (Some s) true e = rw e refl
run_word end at scope c w ws ts (Some s) false e = rw e (found (stands w scope))
  where
    sorts : (x : Sort × Tree) (b : Bool) → goes_on at (wanted_part c) (Some ([], cond b None (Some OtherClass))) (λ front. rest_or_fault end (front ++ ws) ts) ≡ (cond b (done x.1 ts) (failed (WrongClass at)) >>= λ x. rest_or_fault end ws x.1)
    sorts x true = refl
    sorts x false = refl

    found : (o : Option (Sort × Tree)) → goes_on at (wanted_part c) (Some ([], complaint s o)) (λ front. rest_or_fault end (front ++ ws) ts) ≡ (known at s ts o >>= λ x. rest_or_fault end ws x.1)
    found None = refl
    found (Some x) = sorts x (same_sort s x.0)

some_left : (n : ℕ) → eqb (suc n) 0 ≡ false
some_left n = grind (arith, nat_tests)

-- the tree reader stops where the tokens, taken one by one, have their first fault
run_part : (end left : ℕ) → IsExact end left (part_at end left)
unfolding rest_or_fault act part_with inside leaf
run_part end left scope c ws [] = refl
run_part end left scope c ws ((at, Word w) ∷ ts) = run_word end at scope c w ws ts (name_sort c) (is_star w) refl
run_part end left scope c ws ((at, Closes) ∷ ts) = refl
run_part end zero scope c ws ((at, Opens) ∷ ts) = refl
run_part end (suc left) scope c ws ((at, Opens) ∷ ts) = rw (some_left left) (run_inside end left (part_at end left) (run_part end left) scope c ws ts)

-- ---- items

made_named : (s : Sort) (x : List ℕ) (us : List Tree) → with_item (made_item s x us) ≡ (λ names. record { text = x; sort = s } ∷ names)
made_named OfTerm x [] = refl
made_named OfTerm x (a ∷ []) = refl
made_named OfTerm x (a ∷ b ∷ []) = refl
made_named OfTerm x (a ∷ b ∷ c ∷ us) = refl
made_named OfType x [] = refl
made_named OfType x (a ∷ []) = refl
made_named OfType x (a ∷ b ∷ []) = refl
made_named OfType x (a ∷ b ∷ c ∷ us) = refl

shut_item : {C : Type 0} (r : Result (List Token) Fault) (s : Sort) (x : List ℕ) (us : List Tree) (names : List Name) (g : List Name → List Token → Result C Fault)
    → (r >>= λ ts. g (record { text = x; sort = s } ∷ names) ts) ≡ ((r >>= λ ts. done (made_item s x us) ts) >>= λ i. g (with_item i.0 names) i.1)
shut_item (Ok ts) s x us names g = ap (λ (add : List Name → List Name). g (add names) ts) (sym (made_named s x us))
shut_item (Err e) s x us names g = refl

run_open : (end : ℕ) (names : List Name) (ts : List Token) → (ts ≡ [] → ⊥) → rest_or_fault end (MoreItems names ∷ []) ts ≡ (open_at end ts >>= λ r. rest_or_fault end (ItemWord names ∷ []) r)
unfolding rest_or_fault act open_at
run_open end names [] h = absurd (h refl)
run_open end names ((at, Word w) ∷ ts) h = refl
run_open end names ((at, Opens) ∷ ts) h = refl
run_open end names ((at, Closes) ∷ ts) h = refl

run_found_sort : (end at : ℕ) (names : List Name) (ts : List Token) (o : Option Sort)
    → goes_on at wanted.Item (an_item names o) (λ front. rest_or_fault end (front ++ []) ts) ≡ (found_sort at ts o >>= λ s. rest_or_fault end (ItemName names s.0 ∷ []) s.1)
run_found_sort end at names ts (Some s) = refl
run_found_sort end at names ts None = refl

run_sort : (end : ℕ) (names : List Name) (ts : List Token) → rest_or_fault end (ItemWord names ∷ []) ts ≡ (sort_at end ts >>= λ s. rest_or_fault end (ItemName names s.0 ∷ []) s.1)
unfolding rest_or_fault act sort_at
run_sort end names [] = refl
run_sort end names ((at, Word w) ∷ ts) = run_found_sort end at names ts (look_up w item_words)
run_sort end names ((at, Opens) ∷ ts) = refl
run_sort end names ((at, Closes) ∷ ts) = refl

run_item_name : (end : ℕ) (names : List Name) (s : Sort) (ts : List Token)
    → rest_or_fault end (ItemName names s ∷ []) ts ≡ (name_at end 1023 ts >>= λ x. rest_or_fault end (for_pieces 1023 (behind names) None (item_pieces s) ++ MoreItems (record { text = x.0; sort = s } ∷ names) ∷ []) x.1)
unfolding rest_or_fault act name_at
run_item_name end names s [] = refl
run_item_name end names s ((at, Word w) ∷ ts) = if_fine (is_star w) at wanted.Name _ (w, ts) _ _ (rw append-nil refl)
run_item_name end names s ((at, Opens) ∷ ts) = refl
run_item_name end names s ((at, Closes) ∷ ts) = refl

-- an item and the items after it
pub run_item : (end : ℕ) (names : List Name) (ts : List Token) → (ts ≡ [] → ⊥) → rest_or_fault end (MoreItems names ∷ []) ts ≡ (item_at end names ts >>= λ i. rest_or_fault end (MoreItems (with_item i.0 names) ∷ []) i.1)
unfolding item_at
run_item end names ts h = run_open end names ts h
    ∙ bind_step (open_at end ts) _ (λ inner. sort_at end inner >>= λ s. name_at end 1023 s.1 >>= λ x. pieces_with (part_at end 1023) end 1023 (behind names) None (item_pieces s.0) x.1 >>= λ us. close_at end 1023 us.1 >>= λ r. done (made_item s.0 x.0 us.0) r) (λ i. rest_or_fault end (MoreItems (with_item i.0 names) ∷ []) i.1)
    (λ inner. run_sort end names inner
    ∙ bind_step (sort_at end inner) _ (λ s. name_at end 1023 s.1 >>= λ x. pieces_with (part_at end 1023) end 1023 (behind names) None (item_pieces s.0) x.1 >>= λ us. close_at end 1023 us.1 >>= λ r. done (made_item s.0 x.0 us.0) r) (λ i. rest_or_fault end (MoreItems (with_item i.0 names) ∷ []) i.1)
    (λ s. run_item_name end names s.0 s.1
    ∙ bind_step (name_at end 1023 s.1) _ (λ x. pieces_with (part_at end 1023) end 1023 (behind names) None (item_pieces s.0) x.1 >>= λ us. close_at end 1023 us.1 >>= λ r. done (made_item s.0 x.0 us.0) r) (λ i. rest_or_fault end (MoreItems (with_item i.0 names) ∷ []) i.1)
    (λ x. run_pieces end 1023 (part_at end 1023) (run_part end 1023) (behind names) None (item_pieces s.0) (MoreItems (record { text = x.0; sort = s.0 } ∷ names) ∷ []) x.1
    ∙ bind_step (pieces_with (part_at end 1023) end 1023 (behind names) None (item_pieces s.0) x.1) _ (λ us. close_at end 1023 us.1 >>= λ r. done (made_item s.0 x.0 us.0) r) (λ i. rest_or_fault end (MoreItems (with_item i.0 names) ∷ []) i.1)
    (λ us. shut_item (close_at end 1023 us.1) s.0 x.0 us.0 names (λ ns r. rest_or_fault end (MoreItems ns ∷ []) r)))))

no_item : (end : ℕ) (names : List Name) (ts : List Token) (x : Written × List Token) → item_at end names ts ≡ Ok x → ts ≡ [] → ⊥
unfolding item_at open_at
no_item end names [] x e h = absurd cc
no_item end names (t ∷ ts) x e h = absurd cc

-- past whole items the tokens have the same first fault
run_items : (end : ℕ) (names : List Name) (ts : List Token) (is : List Written) (after : List Name) (others : List Token) → Items end names ts is after others → rest_or_fault end (MoreItems names ∷ []) ts ≡ rest_or_fault end (MoreItems after ∷ []) others
run_items end names ts [] after others h = rw (h.0, h.1) refl
run_items end names ts (i ∷ is) after others h = run_item end names ts (no_item end names ts (i, h.0) h.1) ∙ rw h.1 (run_items end (with_item i names) h.0 is after others h.2)

run_the_word : (end : ℕ) (word : List ℕ) (what : CoreWanted) (ws : List Want) (ts : List Token) → rest_or_fault end (TheWord word what ∷ ws) ts ≡ (word_at end word what ts >>= λ r. rest_or_fault end ws r)
unfolding rest_or_fault act word_at
run_the_word end word what ws [] = refl
run_the_word end word what ws ((at, Word w) ∷ ts) = words (bytes_eq w word)
  where
    words : (b : Bool) → goes_on at what (cond b (Some ([], None)) None) (λ front. rest_or_fault end (front ++ ws) ts) ≡ (cond b (Ok ts) (Err (BadText at what)) >>= λ r. rest_or_fault end ws r)
    words true = refl
    words false = refl
run_the_word end word what ws ((at, Opens) ∷ ts) = refl
run_the_word end word what ws ((at, Closes) ∷ ts) = refl

pub run_head : (end : ℕ) (names : List Name) (ts : List Token) → rest_or_fault end (start names) ts ≡ (head_at end ts >>= λ r. rest_or_fault end (MoreItems names ∷ []) r)
unfolding head_at
run_head end names ts = run_the_word end (codes "core") wanted.Core _ ts
    ∙ bind_step (word_at end (codes "core") wanted.Core ts) _ (λ r. word_at end (codes "1") wanted.One r) (λ r. rest_or_fault end (MoreItems names ∷ []) r) (λ r. run_the_word end (codes "1") wanted.One _ r)

-- a whole file has no fault
run_whole : (end : ℕ) (names : List Name) (ts body : List Token) (is : List Written) (after : List Name) → head_at end ts ≡ Ok body → Items end names body is after [] → rest_or_fault end (start names) ts ≡ Ok []
unfolding rest_or_fault
run_whole end names ts body is after e h = run_head end names ts ∙ rw e (run_items end names body is after [] h)

-- where a text says something it has no fault
pub file_runs : (end : ℕ) (names : List Name) (ts : List Token) (is : List Written) → ReadsFile Stands 1023 names ts is → rest_or_fault end (start names) ts ≡ Ok []
file_runs end names ts is h = let r = file_again end names ts is h in run_whole end names ts r.body is (with_items is names) r.head r.items

pub run_head_fault : (end : ℕ) (names : List Name) (ts : List Token) (f : Fault) → head_at end ts ≡ Err f → rest_or_fault end (start names) ts ≡ Err f
run_head_fault end names ts f e = run_head end names ts ∙ rw e refl

pub run_item_fault : (end : ℕ) (names : List Name) (ts body : List Token) (is : List Written) (after : List Name) (others : List Token) (f : Fault)
    → head_at end ts ≡ Ok body → Items end names body is after others → (others ≡ [] → ⊥) → item_at end after others ≡ Err f → rest_or_fault end (start names) ts ≡ Err f
run_item_fault end names ts body is after others f e h here g = run_head end names ts ∙ rw e (run_items end names body is after others h ∙ run_item end after others here ∙ rw g refl)
