use Rattle.std.proofs.Common.{refl, arith}
use Rattle.front.proofs.Counts.{end_below}
use Rattle.front.proofs.answers.judge_records.Goals as goal

pub overflow_add-result : goal.overflow_add-result
overflow_add-result c =
    let found = c.in_ok-places.ensures.layout.sound c.in_ok-places.places refl in
    omega (arith, end_below c.args.file.now c.in_ok-places.places found.0 found.1)
