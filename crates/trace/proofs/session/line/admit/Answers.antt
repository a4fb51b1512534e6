use Rattle.std.proofs.lemmas.Result.{err_from_is_err_and}
use Rattle.rules.specs.Setup.{set_up}
use Rattle.below.specs.Pattern.{pattern_set_up}
use Rattle.trace.proofs.Working.{setup_refused, setup_made, pattern_refused, both_made}
use Rattle.trace.proofs.session.line.admit.Goals as goal

pub returns-in_err-cell : goal.returns-in_err-cell
returns-in_err-cell c =
    let p = err_from_is_err_and c.from_residual.result c.from_residual.ensures.1 in
    rw (p.1, p.2) (record { equipment = setup_refused (set_up c.args.f.kind c.args.f.max_harq_tx c.args.f.max_harq_msg3_tx c.args.f.interval c.args.f.start) (pattern_set_up c.args.f.period c.args.f.offset) c.in_err-cell.field-0.0 c.in_err-cell.ensures; fresh = tt })

pub returns-in_err-gaps : goal.returns-in_err-gaps
returns-in_err-gaps c =
    let p = err_from_is_err_and c.from_residual-in_err-gaps.result c.from_residual-in_err-gaps.ensures.1 in
    let s = set_up c.args.f.kind c.args.f.max_harq_tx c.args.f.max_harq_msg3_tx c.args.f.interval c.args.f.start in
    let m = setup_made s c.in_ok-cell.cell.setup c.in_ok-cell.cell.state c.in_ok-cell.ensures in
    rw (p.1, p.2) (record { equipment = pattern_refused s (pattern_set_up c.args.f.period c.args.f.offset) c.in_ok-cell.cell.setup c.in_err-gaps.field-0.0 m.0 c.in_err-gaps.ensures; fresh = tt })

pub returns : goal.returns
returns c =
    let s = set_up c.args.f.kind c.args.f.max_harq_tx c.args.f.max_harq_msg3_tx c.args.f.interval c.args.f.start in
    let m = setup_made s c.in_ok-cell.cell.setup c.in_ok-cell.cell.state c.in_ok-cell.ensures in
    record { equipment = both_made s (pattern_set_up c.args.f.period c.args.f.offset) c.in_ok-cell.cell.setup c.in_ok-gaps.gaps.period c.in_ok-gaps.gaps.offset m.0 c.in_ok-gaps.ensures; fresh = m.1 }
