-- The text of a tree that is a form, and which form a tree is that was made as one.
use Rattle.std.proofs.Common.{◌≡◌, ℕ, Bool, true, false, cond, List, [], ◌∷◌, Option, Some, None, refl, sym, subst}
use Rattle.std.specs.Str.{bytes_eq}
use Rattle.cdle_model.specs.declared.grammar.Class.{Class}
use Rattle.cdle_model.specs.declared.grammar.Class.TheVariants.{Kind, Ty, Term, Pure, Guide, GuideKind}
use Rattle.cdle_model.specs.declared.grammar.Form.{Form}
use Rattle.cdle_model.specs.declared.grammar.Piece.{Piece}
use Rattle.cdle_model.specs.declared.grammar.Piece.TheVariants.{Binder, Part, Under}
use Rattle.cdle_model.specs.Trees.{Tree, Leaf, var, name, leaf, unary, fun, apply, binary, bind}
use Rattle.cdle_model.specs.CoreGrammar.{form_words, form_of, pieces, made, look_up, Shape, shape, form_in}
use Rattle.print_model.specs.Printed.{form_text, part_text}

-- ---- a tree that is a form

no_var_form : (c : Class) (i : ℕ) → form_in c (var i) ≡ None
no_var_form Kind i = refl
no_var_form Ty i = refl
no_var_form Term i = refl
no_var_form Pure i = refl
no_var_form Guide i = refl
no_var_form GuideKind i = refl

no_name_form : (c : Class) (n : ℕ) → form_in c (name n) ≡ None
no_name_form Kind n = refl
no_name_form Ty n = refl
no_name_form Term n = refl
no_name_form Pure n = refl
no_name_form Guide n = refl
no_name_form GuideKind n = refl

pub no_leaf_form : (c : Class) (l : Leaf) → form_in c (leaf l) ≡ None
no_leaf_form Kind l = refl
no_leaf_form Ty l = refl
no_leaf_form Term l = refl
no_leaf_form Pure l = refl
no_leaf_form Guide l = refl
no_leaf_form GuideKind l = refl

pub form_is : (names : List (List ℕ)) (left k : ℕ) (c : Class) (t : Tree) (f : Shape) → form_in c t ≡ Some f → part_text names left k c t ≡ form_text names left k f
form_is names left k c (var i) f e = let none = no_var_form c i in absurd cc
form_is names left k c (name n) f e = let none = no_name_form c n in absurd cc
form_is names left k c (leaf j) f e = rw e refl
form_is names left k c (unary j p) f e = rw e refl
form_is names left k c (fun j p) f e = rw e refl
form_is names left k c (apply j p q) f e = rw e refl
form_is names left k c (binary j p q) f e = rw e refl
form_is names left k c (bind j p q) f e = rw e refl

-- ---- a tree that was made as a form

-- as many parts as the pieces have
abbrev pub AreParts : List Piece → List Tree → Type 0
AreParts [] us = us ≡ []
AreParts (Binder s ∷ ps) us = AreParts ps us
AreParts (Part c ∷ ps) (u ∷ us) = AreParts ps us
AreParts (Under c ∷ ps) (u ∷ us) = AreParts ps us
AreParts ps us = ⊥

-- a list of parts has the property, whatever parts stand in these pieces
abbrev Fills : (List Tree → Type 0) → List Piece → Type 0
Fills P [] = P []
Fills P (Binder s ∷ ps) = Fills P ps
Fills P (Part c ∷ ps) = (t : Tree) → Fills (λ us. P (t ∷ us)) ps
Fills P (Under c ∷ ps) = (t : Tree) → Fills (λ us. P (t ∷ us)) ps

filled : (P : List Tree → Type 0) (ps : List Piece) (us : List Tree) → AreParts ps us → Fills P ps → P us
filled P [] us h f = subst P (sym h) f
filled P (Binder s ∷ ps) us h f = filled P ps us h f
filled P (Part c ∷ ps) [] h f = absurd h
filled P (Part c ∷ ps) (u ∷ us) h f = filled (λ vs. P (u ∷ vs)) ps us h (f u)
filled P (Under c ∷ ps) [] h f = absurd h
filled P (Under c ∷ ps) (u ∷ us) h f = filled (λ vs. P (u ∷ vs)) ps us h (f u)

-- in each row of a table, the tree that is made of parts is the row's form of these parts
abbrev AreFormsAgain : Class → List (List ℕ × Form) → Type 0
AreFormsAgain c [] = Unit {0}
AreFormsAgain c (e ∷ es) = Fills (λ us. form_in c (made e.1 us) ≡ shape e.0 e.1 us) (pieces e.1) × AreFormsAgain c es

forms_again : (c : Class) → AreFormsAgain c (form_words c)
forms_again Kind = (λ a b. refl, (λ a b. refl, tt))
forms_again Ty = (λ a b. refl, (λ a b. refl, (λ a b. refl, (λ a b. refl, (λ a b. refl, (λ a b. refl, (λ a b. refl, (λ a b. refl, (λ a b. refl, tt)))))))))
forms_again Term = (λ a b. refl, (λ a b. refl, (λ a b. refl, (λ a b. refl, (λ a b. refl, (λ a b. refl, (λ a b c. refl, (λ a. refl, (λ a. refl, (λ a b. refl, (λ a b c d. refl, (λ a b c. refl, (λ a b. refl, tt)))))))))))))
forms_again Pure = (λ a. refl, (λ a b. refl, tt))
forms_again Guide = (λ a b. refl, (λ a b. refl, (λ a b. refl, (λ a. refl, (λ a. refl, (λ a b. refl, (λ a b. refl, (λ a b. refl, (λ a b. refl, tt)))))))))
forms_again GuideKind = (λ a b. refl, (λ a b. refl, tt))

-- the tree made of these parts is that form of the class, under some word
abbrev IsFormAgain : Class → Form → List Tree → Type 0
IsFormAgain c f us = (w : List ℕ) × (form_in c (made f us) ≡ shape w f us)

row_or_later : (c : Class) (w : List ℕ) (g f : Form) (us : List Tree) (o : Option Form) → (AreParts (pieces g) us → form_in c (made g us) ≡ shape w g us) → (o ≡ Some f → IsFormAgain c f us)
    → AreParts (pieces f) us → (b : Bool) → cond b (Some g) o ≡ Some f → IsFormAgain c f us
row_or_later c w g f us o here later h true e = let same : g ≡ f = cc in (w, subst (λ x. form_in c (made x us) ≡ shape w x us) same (here (subst (λ x. AreParts (pieces x) us) (sym same) h)))
row_or_later c w g f us o here later h false e = later e

form_again : (c : Class) (w : List ℕ) (es : List (List ℕ × Form)) (f : Form) (us : List Tree) → AreFormsAgain c es → look_up w es ≡ Some f → AreParts (pieces f) us → IsFormAgain c f us
form_again c w [] f us all e h = absurd cc
form_again c w (x ∷ es) f us all e h =
    row_or_later c x.0 x.1 f us (look_up w es) (λ g. filled (λ vs. form_in c (made x.1 vs) ≡ shape x.0 x.1 vs) (pieces x.1) us g all.0) (λ later. form_again c w es f us all.1 later h) h (bytes_eq w x.0) e

pub made_is : (c : Class) (w : List ℕ) (f : Form) (us : List Tree) → form_of c w ≡ Some f → AreParts (pieces f) us → IsFormAgain c f us
made_is c w f us e h = form_again c w (form_words c) f us (forms_again c) e h
