-- The text that a module's file comes to is that of its module.
use Rattle.std.proofs.Common.{◌≡◌, ℕ, List, [], map, Some, Result, Ok, Err, sym, subst, ◌∙◌}
use Rattle.std.specs.List.{AllByRecursion}
use Rattle.std.proofs.lemmas.List.{append-nil}
use Rattle.cdle_model.specs.Forms.{Written}
use Rattle.source_model.specs.Source.{Module}
use Rattle.scope_model.specs.Scope.{all_names}
use Rattle.scope_model.specs.ScopeNames.{Text}
use Rattle.scope_model.specs.Scoped.{ScopedModule}
use Rattle.scope_model.proofs.WordNames as words
use Rattle.elab_model.specs.Items.{items_of_source, names_of, source_name}
use Rattle.elab_model.specs.Questions.{Finding, found, rejected, spent_at, too_deep, out_of_scope}
use Rattle.elab_model.specs.Soundness.{no_encodings}
use Rattle.elab_model.proofs.GivenItems.{items-given}
use Rattle.print_model.specs.Printed.{file_text}
use Rattle.print_model.specs.PrintedFiles.{IsItemName}
use Rattle.print_model.proofs.FilesRead.{file_read}
use Rattle.build_model.specs.SourceFiles.{of_file}
use Rattle.build_model.proofs.KnownNames.{known_called}
use Rattle.build_module.specs.Built.{IsCoreOf, core_names}
use Rattle.build_module.specs.ModuleAnswers.{gives, nothing, printed, answered, stuck_at, IsScopedModule, IsModuleAnswer}
use Rattle.build_module.proofs.ModuleItems.{Tells, all_built, ready, tells}
use Rattle.build_module.proofs.Printable.{dotted_names, named, names_are}

-- ---- what is given

is_printed : (us ws : List Written) (text : List ℕ) (r : Result (List ℕ) ℕ) → printed us r ≡ gives ws text → (us ≡ ws) × (r ≡ Ok text)
is_printed us ws text (Ok x) e = (cc, cc)
is_printed us ws text (Err i) e = absurd cc

-- the items are what the rules give, and the text is theirs
is_given : (w : Text) (x : Finding (List Written)) (ws : List Written) (text : List ℕ) → answered w x ≡ Some (gives ws text) → (x ≡ found ws) × (file_text (names_of ws) ws ≡ Ok text)
is_given w (found us) ws text e =
    let same : printed us (file_text (names_of us) us) ≡ gives ws text = cc in
    let (i, j) = is_printed us ws text (file_text (names_of us) us) same in
    (cc, subst (λ vs. file_text (names_of vs) vs ≡ Ok text) i j)
is_given w (rejected p c) ws text e = absurd cc
is_given w (spent_at p) ws text e = absurd cc
is_given w (too_deep p) ws text e = absurd cc
is_given w out_of_scope ws text e = absurd cc

-- ---- what the text is

module _ (n : ℕ) (bytes : List ℕ) (name : Text) (m : Module Text) (r : ScopedModule) (s : IsScopedModule bytes name m r) (ws : List Written)
    (given : items_of_source n nothing no_encodings r.items ≡ found ws) where
  given_names : names_of ws ≡ core_names m
  given_names =
      let own : names_of ws ≡ map source_name r.items = subst (Tells r.items) given (tells r.items n nothing (ready bytes name m r s)) in
      own ∙ (sym (known_called [] m r s.scoped (all_built bytes name m r s)) ∙ append-nil (core_names m))

  item_names : AllByRecursion IsItemName (names_of ws)
  item_names =
      let parts = words.text_names bytes s.is.source.tokens (of_file bytes name) m s.is.source.utf8 s.is.source.cut s.is.source.says in
      subst (AllByRecursion IsItemName) (sym given_names) (dotted_names m.name (all_names m.items) parts.0 (words.core_names m parts))

  core_of : (text : List ℕ) → file_text (names_of ws) ws ≡ Ok text → IsCoreOf bytes name text ws
  core_of text e =
      let q = ready bytes name m r s in
      let g = items-given r.items n nothing q.sound q.derived q.fit q.differ ws given in
      record {
        parsed = m;
        scoped = r;
        source_says = s.is.source;
        scope = s.scoped;
        core_says = file_read [] ws text (named [] ws item_names g.derived) g.items (subst (λ xs. file_text xs ws ≡ Ok text) (names_are ws) e);
        names = given_names;
        erase = g.erase;
        derived = g.derived;
      }

pub given_text : (n : ℕ) (bytes : List ℕ) (name : Text) (ws : List Written) (text : List ℕ) → IsModuleAnswer n bytes name (gives ws text) → IsCoreOf bytes name text ws
given_text n bytes name ws text (m, r, s, e) =
    let (given, text_is) = is_given (stuck_at n nothing r.items) (items_of_source n nothing no_encodings r.items) ws text e in
    core_of n bytes name m r s ws given text text_is
