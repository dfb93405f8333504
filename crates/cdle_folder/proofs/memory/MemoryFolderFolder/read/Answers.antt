use Rattle.std.proofs.Common.{◌≡◌, ◌∙◌, ◌≤◌, None, Some, ap, arith, length}
use Rattle.cdle_folder.specs.Memory.{files_in}
use Rattle.cdle_folder.specs.declared.memory.MemoryFolder.{MemoryFolder}
use Rattle.cdle_folder.proofs.Told.{length-altered, none_longer, short_longer, when_told}
use Rattle.cdle_folder.proofs.memory.MemoryFolderFolder.read.Goals as goal

pub returns-in_default-clause-too_long_always : goal.returns-in_default-clause-too_long_always
returns-in_default-clause-too_long_always c =
    let absence : None ≡ files_in c.args.self.now.files c.args.name.now = c.in_default.ensures ∙ ap (λ (s : MemoryFolder). files_in s.files c.args.name.now) c.fails_now.ensures.rest in
    when_told c.args.self.now.change.items (files_in c.args.self.now.files) _ (λ longer quiet. none_longer c.args.limit (files_in c.args.self.now.files c.args.name.now) absence longer)

pub returns-in-Ok-keep-clause-bound : goal.returns-in-Ok-keep-clause-bound
returns-in-Ok-keep-clause-bound c =
    omega (arith, ap length c.in-Ok.ensures, length-altered c.fails_now.new.self.change.items c.args.self.now.calls c.in-Some.file.now.items, c.len.ensures, c.if-limit-len.false)

pub returns-in-Ok-keep-clause-too_long_always : goal.returns-in-Ok-keep-clause-too_long_always
returns-in-Ok-keep-clause-too_long_always c =
    let there : Some c.in-Some.file.now.items ≡ files_in c.args.self.now.files c.args.name.now = c.in-Some.ensures ∙ ap (λ (s : MemoryFolder). files_in s.files c.args.name.now) c.fails_now.ensures.rest in
    let short : length c.in-Some.file.now.items ≤ c.args.limit = omega (arith, c.len.ensures, c.if-limit-len.false) in
    when_told c.args.self.now.change.items (files_in c.args.self.now.files) _
    (λ longer quiet. short_longer c.args.limit (files_in c.args.self.now.files c.args.name.now) c.in-Some.file.now.items there short longer)
