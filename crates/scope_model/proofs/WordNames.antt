-- The names of a module's Core items are parts of words of Core text, also as written.
use Rattle.std.proofs.Common.{◌≡◌, ℕ, zero, suc, ◌<◌, Bool, true, false, ◌||◌, List, [], ◌∷◌, ◌++◌, codes, map, refl, sym, subst, Option, Ok, arith}
use Rattle.std.specs.List.{AllByRecursion, list_any}
use Rattle.std.specs.Str.{IsUtf8, IsAscii}
use Rattle.std.proofs.lemmas.Str.{IsUtf8-append, IsUtf8-from_ascii}
use Rattle.cdle_model.specs.CoreNames.{Name}
use Rattle.cdle_model.specs.CoreTokens.{ends_word}
use Rattle.source_model.specs.Source.{Constructor, def_item, type_item, data_item, NameUse, Item, Module}
use Rattle.source_model.specs.Grammar.{Token}
use Rattle.source_model.specs.Parsing.{Given}
use Rattle.source_model.specs.SurfaceText.{Says}
use Rattle.source_model.specs.SurfaceTokens.{TextToken, lexed}
use Rattle.scope_model.specs.Scoped.{ScopedModule}
use Rattle.scope_model.specs.ScopeNames.{Text, Exported, Around}
use Rattle.scope_model.specs.Scope.{constructor_names, item_names, all_names, texts, scoped_module, around}
use Rattle.scope_model.specs.ItemNames.{as_written, IsPartOfWord, AreCalled, called, declared_by, AllDeclared, AllNames}
use Rattle.scope_model.proofs.ItemsNamed.{module_named}
use Rattle.scope_model.proofs.SaidNames.{said_names}
use Rattle.scope_model.proofs.TokenNames.{token_names}

abbrev AllParts : List Text → Type 0
AllParts xs = AllByRecursion IsPartOfWord xs

or_false : (b c : Bool) → (b || c) ≡ false → (b ≡ false) × (c ≡ false)
or_false true c e = absurd cc
or_false false c e = (refl, e)

any_append : (xs ys : Text) → list_any ends_word xs ≡ false → list_any ends_word ys ≡ false → list_any ends_word (xs ++ ys) ≡ false
any_append [] ys d e = e
any_append (x ∷ xs) ys d e = let b = or_false (ends_word x) (list_any ends_word xs) d in λ i. b.0 i || any_append xs ys b.1 e i

joined : (x y : Text) → IsPartOfWord x → IsPartOfWord y → IsPartOfWord (x ++ y)
joined x y p q = record { utf8 = IsUtf8-append x y p.utf8 q.utf8; goes_on = any_append x y p.goes_on q.goes_on }

-- ASCII bytes
low_bytes : (bs : Text) → AllByRecursion (λ b. b < 128) bs → IsAscii bs
low_bytes [] h i = omega arith
low_bytes (b ∷ bs) h zero = h.0
low_bytes (b ∷ bs) h (suc i) = low_bytes bs h.1 i

-- an ASCII word
low_part : (bs : Text) → AllByRecursion (λ b. b < 128) bs → list_any ends_word bs ≡ false → IsPartOfWord bs
low_part bs h e = record { utf8 = IsUtf8-from_ascii bs (low_bytes bs h); goes_on = e }

dot : IsPartOfWord (codes ".")
dot = low_part (codes ".") (omega arith, tt) refl

f_ending : IsPartOfWord (codes "/F")
f_ending = low_part (codes "/F") (omega arith, (omega arith, tt)) refl

mono_ending : IsPartOfWord (codes "/mono")
mono_ending = low_part (codes "/mono") (omega arith, (omega arith, (omega arith, (omega arith, (omega arith, tt))))) refl

mu_ending : IsPartOfWord (codes "/mu")
mu_ending = low_part (codes "/mu") (omega arith, (omega arith, (omega arith, tt))) refl

sigma_ending : IsPartOfWord (codes "/sigma")
sigma_ending = low_part (codes "/sigma") (omega arith, (omega arith, (omega arith, (omega arith, (omega arith, (omega arith, tt)))))) refl

all_append : (xs ys : List Name) → AllParts (texts xs) → AllParts (texts ys) → AllParts (texts (xs ++ ys))
all_append [] ys p q = q
all_append (x ∷ xs) ys p q = (p.0, all_append xs ys p.1 q)

constructors_parts : (cs : List (Constructor Text (Option Text) (NameUse Text))) → AllParts (map (λ c. c.name) cs) → AllParts (texts (constructor_names cs))
constructors_parts [] p = tt
constructors_parts (c ∷ cs) p = (p.0, constructors_parts cs p.1)

item_parts : (i : Item Text) → AllParts (declared_by i) → AllParts (texts (item_names i))
item_parts (def_item p x t u) d = d
item_parts (type_item p x t u) d = d
item_parts (data_item p d ps cs) h =
    (joined d (codes "/F") h.0 f_ending, (joined d (codes "/mono") h.0 mono_ending, (h.0, all_append (constructor_names cs) _ (constructors_parts cs h.1) (joined d (codes "/mu") h.0 mu_ending, (joined d (codes "/sigma") h.0 sigma_ending, tt)))))

items_parts : (is : List (Item Text)) → AllDeclared IsPartOfWord is → AllParts (texts (all_names is))
items_parts [] d = tt
items_parts (i ∷ is) d = all_append (item_names i) (all_names is) (item_parts i d.0) (items_parts is d.1)

written_parts : (a : Around) (xs : List Name) → IsPartOfWord a.name → AllParts (texts xs) → AllParts (texts (map (as_written a) xs))
written_parts a [] n p = tt
written_parts a (x ∷ xs) n p = (joined a.name (codes "." ++ x.text) n (joined (codes ".") x.text dot p.0), written_parts a xs n p.1)

pub numbered_names : (g : Given ℕ) (ts : List (Token ℕ)) (m : Module ℕ) → AreCalled (λ n. IsPartOfWord (g.text n)) ts → Says g ts m → AllNames (λ n. IsPartOfWord (g.text n)) m
numbered_names g ts m c s = said_names (λ n. IsPartOfWord (g.text n)) g ts m c s

pub text_names : (text : List ℕ) (ts : List TextToken) (g : Given Text) (m : Module Text) → IsUtf8 text → lexed text ≡ Ok ts → Says g (map (called text) ts) m → AllNames IsPartOfWord m
text_names text ts g m u e s = said_names IsPartOfWord g (map (called text) ts) m (token_names text ts u e) s

pub core_names : (m : Module Text) → AllNames IsPartOfWord m → AllByRecursion IsPartOfWord (texts (all_names m.items))
core_names m h = items_parts m.items h.1

pub written_names : (known : List Exported) (m : Module Text) (r : ScopedModule) → AllNames IsPartOfWord m → scoped_module known m ≡ Ok r → AllByRecursion IsPartOfWord (texts (all_names r.items))
written_names known m r h e = subst (λ (l : List Name). AllParts (texts l)) (sym (module_named known m r e)) (written_parts (around known m) (all_names m.items) h.0 (core_names m h))
