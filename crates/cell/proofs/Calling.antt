-- A subframe call that was admitted, by what each of its stages returned.
use Rattle.std.proofs.Common.{◌≡◌, ℕ, ◌^◌, ◌<◌, Bool, true, Some, Ok, Option, ◌∙◌}
use Rattle.terms.specs.declared.setup.Setup.{Setup}
use Rattle.terms.specs.declared.grant.Grant.{Grant}
use Rattle.terms.specs.declared.grant.GrantInForce.{GrantInForce}
use Rattle.terms.specs.declared.grant.ConfiguredGrant.{ConfiguredGrant}
use Rattle.terms.specs.declared.process.Feedback.{Feedback}
use Rattle.terms.specs.declared.state.State.{State}
use Rattle.rules.specs.Reception.{grant_in_force, stored_after}
use Rattle.rules.specs.Entity.{process_of}
use Rattle.rules.specs.Questions.{questioned}
use Rattle.rules.specs.Subframe.{heard, with_configured, clock_moved}
use Rattle.rules.specs.Invariant.{Sound, SizedGrant, NamedBelow}
use Rattle.rules.specs.Setup.{set_up_questions, set_up_holds}
use Rattle.runs.specs.Runs.{Accepted}
use Rattle.rules.proofs.Keeping.{yes_accepts, admitted, sound_heard, sound_stored, sound_moved, sized_in_force, named_in_force, process_bound}
use Rattle.cell.specs.declared.cell.Cell.{Cell}

-- the set-up of a cell was accepted
pub accepted_cell : (c : Cell) → Accepted c.setup
unfolding set_up_holds
accepted_cell c = yes_accepts (set_up_questions c.setup) c.accepted

-- what a cell keeps
pub sound_cell : (c : Cell) → Sound c.setup c.state
sound_cell c = c.sound

-- what the stages of an admitted subframe call returned, up to the process of the subframe: set-up, state, length of packet memory, can the radio take one more, is the subframe a gap
pub record Stages (su : Setup) (st : State) (n : ℕ) (ready gap : Bool) (a : Option Feedback) (g : Option Grant) : Type 0 where
  pub hears : State
  pub in_force : Option GrantInForce
  pub stores : Option ConfiguredGrant
  pub yes : Ok tt ≡ questioned su st n ready gap a g
  pub hears_is : hears ≡ heard su st gap a
  pub in_force_is : in_force ≡ grant_in_force su st.clock hears.configured g
  pub stores_is : stores ≡ stored_after st.clock hears.configured g

module _ {su : Setup} {st : State} {n : ℕ} {ready gap : Bool} {a : Option Feedback} {g : Option Grant} (z : Stages su st n ready gap a g) {o : Option ℕ} (eo : o ≡ process_of su.kind st.clock z.in_force z.hears.repetition) where
  -- the state that the process of the subframe finds
  abbrev found : State
  found = with_configured z.hears z.stores

  -- what the subframe of the process needs
  pub record Prepared (k : ℕ) : Type 0 where
    pub sound : Sound su found
    pub sized : SizedGrant z.in_force
    pub named : NamedBelow su.kind z.in_force
    pub bound : k < 8
    pub clock : st.clock < 2 ^ 48
    pub same_clock : z.hears.clock ≡ st.clock
    pub room : ready ≡ true

  -- a subframe with no process
  pub sound_idle : Sound su st → Sound su (clock_moved found)
  sound_idle h =
      let y = admitted su st n ready gap a g z.yes in
      sound_moved su found (rw (z.stores_is, z.hears_is) (sound_stored su (heard su st gap a) st.clock g (sound_heard su st gap a h) y.fields))

  pub prepared : (k : ℕ) → Some k ≡ o → Sound su st → Prepared k
  prepared k ek h =
      let y = admitted su st n ready gap a g z.yes in
      let s1 = heard su st gap a in
      let h1 = sound_heard su st gap a h in
      record {
        sound = rw (z.stores_is, z.hears_is) (sound_stored su s1 st.clock g h1 y.fields);
        sized = rw (z.in_force_is, z.hears_is) (sized_in_force su s1 st.clock g h1 y.fields);
        named = rw z.in_force_is (named_in_force su st.clock z.hears.configured g y.fields);
        bound = process_bound su s1 st.clock k g h1 y.fields (ek ∙ eo ∙ rw (z.in_force_is, z.hears_is));
        clock = y.clock;
        same_clock = rw z.hears_is;
        room = y.room;
      }
