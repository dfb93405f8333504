use Rattle.std.proofs.Common.{[], subst}
use Rattle.core_text.specs.File.{IsFaultOf}
use Rattle.build_drive.proofs.Ends.{no_broken, no_fault}
use Rattle.build_drive.proofs.written.memory_wanted.Goals as goal

pub unreachable-requires : goal.unreachable-requires
unreachable-requires c = let h = subst (IsFaultOf c.args.bytes.now []) c.in-NotUtf8.is c.requires.fault in no_broken c.args.bytes.now _ c.requires.said.1.utf8 h

pub unreachable-requires-in-BadText : goal.unreachable-requires-in-BadText
unreachable-requires-in-BadText c =
    let h = subst (IsFaultOf c.args.bytes.now []) c.in-BadText.is c.requires.fault in no_fault [] c.args.bytes.now c.requires.said.0 _ c.requires.said.1 h

pub unreachable-requires-in-Unbound : goal.unreachable-requires-in-Unbound
unreachable-requires-in-Unbound c =
    let h = subst (IsFaultOf c.args.bytes.now []) c.in-Unbound.is c.requires.fault in no_fault [] c.args.bytes.now c.requires.said.0 _ c.requires.said.1 h

pub unreachable-requires-in-WrongClass : goal.unreachable-requires-in-WrongClass
unreachable-requires-in-WrongClass c =
    let h = subst (IsFaultOf c.args.bytes.now []) c.in-WrongClass.is c.requires.fault in no_fault [] c.args.bytes.now c.requires.said.0 _ c.requires.said.1 h

pub unreachable-requires-in-TooDeep : goal.unreachable-requires-in-TooDeep
unreachable-requires-in-TooDeep c =
    let h = subst (IsFaultOf c.args.bytes.now []) c.in-TooDeep.is c.requires.fault in no_fault [] c.args.bytes.now c.requires.said.0 _ c.requires.said.1 h
