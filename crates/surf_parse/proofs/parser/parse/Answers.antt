use Rattle.std.proofs.Common.{◌≡◌, length}
use Rattle.surf_parse.proofs.parser.parse.Goals as goal

pub returns-clause-parsed : goal.returns-clause-parsed
returns-clause-parsed c =
    let h = c.read_module.ensures in
    let end : c.in-Ok.end ≡ length c.args.text.now = c.in-Ok.ensures.1 in
    rw (c.as_slice.ensures.value, c.in_ok-numbered.ensures.tokens, c.as_bytes.ensures.value, end) at h
