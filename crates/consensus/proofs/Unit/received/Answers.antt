-- A unit that caught up is in the message's round, or in its own, which is no lower. Assumes nothing.
use Rattle.std.proofs.Common.{arith}
use Rattle.consensus.proofs.Stays.{caught_up_round}
use Rattle.consensus.proofs.Unit.received.Goals as goal

pub on_kind-requires : goal.on_kind-requires
on_kind-requires c =
    let at = caught_up_round c.args.self.now c.args.m.message (omega (arith, c.if-m-self.false)) in
    rw (c.caught_up.ensures, at) c.args.m.in_rounds
