use Rattle.std.proofs.Common.{drop, ap, ◌∙◌, arith}
use Rattle.mix_stream.proofs.Finding.{gives_block}
use Rattle.mix_stream.proofs.find.in_block.Goals as goal

pub returns-clause-some : goal.returns-clause-some
returns-clause-some c =
    let f = c.in_ok-len.ensures.found in
    gives_block c.args.stream.now c.in_ok-len.len f.0 c.split_at.result.1.now c.requires.inside (omega (arith, c.if-stream-gt0.false)) (c.split_at.ensures.back ∙ ap (drop c.args.stream.now.at) c.bytes_shown.ensures)
    c.in_ok-len.ensures.len.0 c.in_ok-len.ensures.len.1 f.1
