use Rattle.std.proofs.Common.{◌≡◌, ◌++◌, List, Ok, Err, map, subst}
use Rattle.cdle_model.specs.Forms.{name_of}
use Rattle.scope_model.specs.ScopeNames.{Text}
use Rattle.elab_tree.specs.Items.{written}
use Rattle.elab_tree.specs.declared.items.OutItem.{OutItem}
use Rattle.build_modules.specs.Answers.{GivesText}
use Rattle.build_modules.proofs.Printing.{names_behind, printing_goes_on, printing_stops}
use Rattle.build_modules.proofs.print.printed_files.Goals as goal

pub returns-in-Err : goal.returns-in-Err
returns-in-Err c =
    let items = c.in-Some.items.now in
    let names = subst (λ (xs : List OutItem). c.add_names.new.names.items ≡ c.files.names.items ++ map (λ item. name_of (written item)) xs) c.deref.ensures.value c.in_ok-add_names.ensures in
    printing_stops c.args.files.now c.files.rest.now c.in-Some.others.now items c.files.texts.items c.files.names.items c.add_names.new.names.items c.in-Err.fault c.files.invariant.same c.in-Some.ensures.cases.0
    (names_behind c.files.names.items c.add_names.new.names.items items.items names)
    (subst (λ (ns : List Text). GivesText ns (map written items.items) (Err c.in-Err.fault)) c.deref-in-Some-2.ensures.value
    (subst (λ (xs : List OutItem). GivesText c.deref-in-Some-2.result.now (map written xs) (Err c.in-Err.fault)) c.deref-in-Some.ensures.value c.in-Err.ensures))

pub files-preserved : goal.files-preserved
files-preserved c =
    let items = c.in-Some.items.now in
    let names = subst (λ (xs : List OutItem). c.add_names.new.names.items ≡ c.files.names.items ++ map (λ item. name_of (written item)) xs) c.deref.ensures.value c.in_ok-add_names.ensures in
    record {
      same = printing_goes_on c.args.files.now c.files.rest.now c.in-Some.others.now items c.files.texts.items c.push.new.self.items c.in-Ok.text c.files.names.items c.add_names.new.names.items c.files.invariant.same c.in-Some.ensures.cases.0
          (names_behind c.files.names.items c.add_names.new.names.items items.items names)
          (subst (λ (ns : List Text). GivesText ns (map written items.items) (Ok c.in-Ok.text)) c.deref-in-Some-2.ensures.value
          (subst (λ (xs : List OutItem). GivesText c.deref-in-Some-2.result.now (map written xs) (Ok c.in-Ok.text)) c.deref-in-Some.ensures.value c.in-Ok.ensures))
          c.in_ok-push-in-Ok.ensures.items;
    }
