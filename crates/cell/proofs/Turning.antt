-- The subframe of a process, by what each of its stages returned.
use Rattle.std.proofs.Common.{◌≡◌, ℕ, ◌<◌, Bool, List, Option}
use Rattle.terms.specs.declared.setup.Setup.{Setup}
use Rattle.terms.specs.declared.grant.GrantInForce.{GrantInForce}
use Rattle.terms.specs.declared.process.Process.{Process}
use Rattle.terms.specs.declared.state.Repetition.{Repetition}
use Rattle.terms.specs.declared.state.State.{State}
use Rattle.terms.specs.declared.decision.Decision.{Decision}
use Rattle.terms.specs.declared.decision.Work.{Work}
use Rattle.terms.specs.declared.decision.Conclusion.{Conclusion}
use Rattle.rules.specs.Reception.{referred}
use Rattle.rules.specs.Entity.{process_at, decided, course, work_of}
use Rattle.rules.specs.Subframe.{concluded, repetition_after, finished}
use Rattle.rules.specs.Invariant.{Sound, SizedGrant, NamedBelow, Obtains, LoadedWork}
use Rattle.rules.proofs.Keeping.{good_referred, sane, loaded_work, good_concluded, sound_finished, repeated_after}

module _ (su : Setup) (st : State) (m : List ℕ) (offers : ℕ → Option (List ℕ)) (g : Option GrantInForce) (k : ℕ) (h : Sound su st) (z : SizedGrant g) (l : k < 8) where
  pub loaded_turn : (q p : Process) (d : Decision) (w : Work)
      → q ≡ process_at st.processes k → p ≡ referred g q → d ≡ decided su g p → Obtains d st.msg3 m offers → w ≡ work_of (course su d st.msg3 m offers p) → LoadedWork su w
  loaded_turn q p d w eq ep ed o ew =
      rw ew (loaded_work su d st.msg3 m offers p h.bounds (rw (ep, eq) (good_referred su g (process_at st.processes k) (h.good k l))) (rw ed (sane su g p z)) o)

  pub sound_turn : (t : ℕ) (gap : Bool) (w : Work) (c : Conclusion) (r : Option Repetition) (st' : State) → NamedBelow su.kind g → LoadedWork su w
      → c ≡ concluded su k gap w → r ≡ repetition_after su.kind t g w st.repetition → st' ≡ finished st k r c → Sound su st'
  sound_turn t gap w c r st' n lw ec er es =
      rw es (sound_finished su st k r c h (rw ec (good_concluded su k gap w lw)) (rw er (repeated_after su.kind t g w st.repetition n h.repeats)))
