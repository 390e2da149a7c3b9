use Rattle.arrow_choice.proofs.Common.{◌-◌, ◌/◌, ◌<◌, ◌^◌, arith, low_zeros}
use Rattle.arrow_choice.proofs.SideLemmas.{run_in}
use Rattle.arrow_choice.proofs.if_then_else.runs.Word.run_of.Goals as goal

pub returns : goal.returns
returns c =
    let w = c.others.result in
    let place = c.args.place in
    let small : w / 2 ^ place < 2 ^ 64 = omega arith in
    run_in c.args.self.valid c.args.self.values c.args.truth place w c.min.result c.requires c.others.ensures (low_zeros (w / 2 ^ place) (64 - place) c.min.result small (omega arith) c.min.ensures)
