-- The items of modules that are known, and what one module more keeps of them.
use Rattle.std.proofs.Common.{◌≡◌, ◌∙◌, ℕ, false, List, [], ◌∷◌, ◌++◌, map, None, Ok, codes, refl, sym, ap, ap₂, subst}
use Rattle.std.specs.List.{AllByRecursion}
use Rattle.std.specs.Str.{bytes_eq}
use Rattle.std.proofs.lemmas.List.{append_assoc, append-nil, append_cancel_left}
use Rattle.cdle_model.specs.Classes.{item_sorts}
use Rattle.cdle_model.specs.Derivation.{AreDerived}
use Rattle.cdle_model.specs.Forms.{Written}
use Rattle.source_model.specs.Source.{Module}
use Rattle.scope_model.specs.ItemNames.{called}
use Rattle.scope_model.specs.Scope.{all_names, count, scoped_module, with_module}
use Rattle.scope_model.specs.ScopeFits.{AreNumbered, known_sorts}
use Rattle.scope_model.specs.ScopeNames.{Exported, Text}
use Rattle.scope_model.specs.Scoped.{ScopedModule}
use Rattle.scope_model.proofs.SaidNames.{said_names}
use Rattle.scope_model.proofs.ScopedItems.{module_fits, modules_numbered}
use Rattle.elab_model.specs.Items.{NamesDiffer, SourceItemsFit, names_of, source_name, with_items}
use Rattle.elab_model.specs.Questions.{Env, found}
use Rattle.elab_model.specs.Soundness.{EnvSound}
use Rattle.elab_model.proofs.GivenItems.{ItemsGiven}
use Rattle.build_model.specs.ModuleNames.{has_dot, known_names}
use Rattle.build_model.specs.SourceFiles.{IsSource, of_file}
use Rattle.build_model.specs.Unbuilt.{unbuilt_items}
use Rattle.build_model.proofs.FormsFit.{items_fit}
use Rattle.build_model.proofs.Items.{known_sorted}
use Rattle.build_model.proofs.KnownNames.{known_called, names_differ_behind}
use Rattle.build_model.proofs.NoDots.{tokens_undotted}
use Rattle.build_model.proofs.SaidForms.{said_forms}
use Rattle.build_model.proofs.ScopedForms.{module_kept}
use Rattle.modules_model.specs.AllBuilt.{core_names}
use Rattle.modules_model.specs.ModuleTexts.{nothing}
use Rattle.modules_model.proofs.Lists.{all_append, names_append, sorts_append}
use Rattle.modules_model.proofs.Tells.{AreReady, Tells}

-- the items are those of the known modules, with the names and the sorts that these are known to have
pub record Stands (known : List Exported) (e : Env) : Type 0 where
  pub numbered : AreNumbered 0 known
  pub undotted : AllByRecursion (λ x. has_dot x.name ≡ false) known
  pub sound : EnvSound e
  pub derived : AreDerived e.items
  pub sorts : item_sorts e.items ≡ known_sorts known
  pub names : names_of e.items ≡ known_names known

pub nothing_stands : Stands [] nothing
nothing_stands = record { numbered = tt; undotted = tt; sound = record { items = tt; erasures = tt }; derived = tt; sorts = refl; names = refl }

-- a file of its name says the module
abbrev pub IsSaid : Module Text → Type 0
IsSaid m = (bytes : List ℕ) × IsSource bytes m.name m

said_undotted : (m : Module Text) → IsSaid m → has_dot m.name ≡ false
said_undotted m (bytes, s) = (said_names (λ w. has_dot w ≡ false) (of_file bytes m.name) (map (called bytes) s.tokens) m (tokens_undotted bytes s.tokens s.utf8 s.cut) s.says).0

-- none of the known modules has the name
abbrev pub IsOther : List Exported → Module Text → Type 0
IsOther known m = AllByRecursion (λ x. bytes_eq x.name m.name ≡ false) known

-- the names that are known with one module more
known_more : (xs : List Exported) (y : Exported) → known_names (xs ++ y ∷ []) ≡ known_names xs ++ map (λ z. y.name ++ (codes "." ++ z.text)) y.items
known_more [] y = append-nil _
known_more (x ∷ xs) y =
    let own : List Text = map (λ z. x.name ++ (codes "." ++ z.text)) x.items in
    ap (λ (l : List Text). own ++ l) (known_more xs y) ∙ sym (append_assoc own (known_names xs) (map (λ z. y.name ++ (codes "." ++ z.text)) y.items))

module _ (known : List Exported) (e : Env) (s : Stands known e) (m : Module Text) (said : IsSaid m) (r : ScopedModule) (scope : scoped_module known m ≡ Ok r) (built : unbuilt_items r.items ≡ None) where
  pub ready : IsOther known m → AreReady e r.items
  ready other = record {
    sound = s.sound;
    derived = s.derived;
    fit = subst (λ xs. SourceItemsFit xs r.items) (sym s.sorts)
        (items_fit (known_sorts known) r.items (module_kept known m r scope (said_forms (of_file said.0 m.name) (map (called said.0) said.1.tokens) m said.1.says)) (module_fits known m r s.numbered scope) built);
    differ = subst (λ xs. NamesDiffer xs r.items) (sym s.names) (names_differ_behind known m r other s.undotted (said_undotted m said) scope built);
  }

  pub stands_next : (ws : List Written) → Tells r.items (found ws) → ItemsGiven e.items r.items ws → Stands (with_module known m) (with_items e ws)
  stands_next ws t g = record {
    numbered = modules_numbered known m s.numbered;
    undotted = all_append (λ x. has_dot x.name ≡ false) known (record { name = m.name; first = count known; items = all_names m.items } ∷ []) s.undotted (said_undotted m said, tt);
    sound = record { items = g.items; erasures = g.erasures };
    derived = g.derived;
    sorts = sorts_append e.items ws ∙ ap₂ ◌++◌ s.sorts t.1 ∙ sym (known_sorted known m r scope built);
    names = names_append e.items ws ∙ ap₂ ◌++◌ s.names t.0 ∙ sym (known_called known m r scope built);
  }

  -- the module's items are called by its Core names
  pub own_names : map source_name r.items ≡ core_names m
  own_names = append_cancel_left (known_names known) (map source_name r.items) (core_names m)
      (sym (known_called known m r scope built) ∙ known_more known (record { name = m.name; first = count known; items = all_names m.items }))
