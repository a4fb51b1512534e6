use Rattle.rules.specs.Setup.{set_up_questions, set_up_holds}
use Rattle.rules.proofs.Keeping.{sound_fresh, bounds_asked, accepts_yes}
use Rattle.terms.specs.declared.setup.Setup.{Setup}
use Rattle.cell.proofs.cell.Cell.set_up.Goals as goal

pub invariant_of-result : goal.invariant_of-result
unfolding set_up_holds
invariant_of-result c =
    let su : Setup = record { kind = c.in_ok-try_from.field-0; max_harq_tx = c.args.max_harq_tx; max_harq_msg3_tx = c.args.max_harq_msg3_tx; interval = c.args.interval; start = c.args.start } in
    record {
      accepted = accepts_yes (set_up_questions su) c.in_ok-ask_of_setup.ensures;
      sound = assumption (sound_fresh su c.args.start (bounds_asked su c.in_ok-ask_of_setup.ensures));
    }
