-- What a cell keeps from call to call.
use Rattle.std.specs.Prelude.{◌≡◌, ℕ, ◌+◌, ◌<◌, ◌≤◌, true, ◌&&◌, List, length, Some, None, Option}
use Rattle.std.specs.Option.{unwrap_or}
use Rattle.terms.specs.declared.setup.CellKind.{CellKind}
use Rattle.terms.specs.declared.setup.CellKind.TheVariants.{Plain, Bundled, Asynchronous}
use Rattle.terms.specs.declared.setup.Setup.{Setup}
use Rattle.terms.specs.declared.grant.GrantInForce.{GrantInForce}
use Rattle.terms.specs.declared.state.State.{State}
use Rattle.terms.specs.declared.decision.Decision.{Decision}
use Rattle.terms.specs.declared.decision.Decision.TheVariants as decision
use Rattle.terms.specs.declared.decision.Work.{Work}
use Rattle.terms.specs.declared.decision.Work.TheVariants as work
use Rattle.terms.specs.declared.grant.ConfiguredGrant.{ConfiguredGrant}
use Rattle.terms.specs.declared.process.Process.{Process}
use Rattle.terms.specs.declared.state.Repetition.{Repetition}
use Rattle.rules.specs.Process.{synchronous, holds_packet, maximum}
use Rattle.rules.specs.Entity.{process_at, Fresh, obtained}

-- the size of the stored grant, and 1 where there is none
abbrev pub stored_size : Option ConfiguredGrant → ℕ
stored_size None = 1
stored_size (Some c) = c.size

-- the process whose repetitions were started last, and 0 where none were
abbrev pub repeated_process : Option Repetition → ℕ
repeated_process None = 0
repeated_process (Some r) = r.process

-- a process between calls
pub record Good (su : Setup) (p : Process) : Type 0 where
  -- CURRENT_IRV is a place of the sequence
  pub index : p.current_irv.0 < 4
  pub count : p.current_tx_nb < 28
  -- a held packet has 1 to 645 bytes
  pub not_empty : 1 ≤ unwrap_or p.buffer 1
  pub not_long : unwrap_or p.buffer 1 ≤ 645
  -- a packet that a synchronous cell holds has a transmission left
  pub limit : (holds_packet p && synchronous su.kind) ≡ true → p.current_tx_nb + 1 < maximum su p.from_msg3

-- a process that is about to transmit
pub record Loaded (su : Setup) (p : Process) : Type 0 where
  pub index : p.current_irv.0 < 4
  pub count : p.current_tx_nb < 28
  pub not_empty : 1 ≤ unwrap_or p.buffer 0
  pub not_long : unwrap_or p.buffer 0 ≤ 645
  pub limit : synchronous su.kind ≡ true → p.current_tx_nb + 1 ≤ maximum su p.from_msg3

pub record Bounds (su : Setup) : Type 0 where
  pub least : 1 ≤ su.max_harq_tx
  pub most : su.max_harq_tx ≤ 28
  pub least3 : 1 ≤ su.max_harq_msg3_tx
  pub most3 : su.max_harq_msg3_tx ≤ 8

pub record Sound (su : Setup) (st : State) : Type 0 where
  pub bounds : Bounds su
  pub packets : st.tally.packets ≤ st.clock
  pub sendings : st.tally.sendings ≤ st.clock
  pub smallest : 1 ≤ stored_size st.configured
  pub largest : stored_size st.configured ≤ 645
  pub shortest : 1 ≤ unwrap_or st.msg3 1
  pub longest : unwrap_or st.msg3 1 ≤ 645
  pub repeats : repeated_process st.repetition < 8
  pub good : (k : ℕ) → k < 8 → Good su (process_at st.processes k)

abbrev pub LoadedWork : Setup → Work → Type 0
LoadedWork su (work.Rest o p) = Good su p
LoadedWork su (work.New p) = Loaded su p
LoadedWork su (work.Again p acked) = Loaded su p

abbrev pub SizedGrant : Option GrantInForce → Type 0
SizedGrant None = Unit {0}
SizedGrant (Some g) = (1 ≤ g.size) × (g.size ≤ 645)

-- a decision that the process can follow
abbrev pub Sane : Process → Decision → Type 0
Sane p (decision.Rest o) = Unit {0}
Sane p (decision.New g) = (1 ≤ g.size) × (g.size ≤ 645)
Sane p (decision.Adaptive g) = holds_packet p ≡ true
Sane p decision.NonAdaptive = holds_packet p ≡ true

-- a packet that is obtained has 1 to 645 bytes
abbrev pub FreshSized : Option Fresh → Type 0
FreshSized None = Unit {0}
FreshSized (Some f) = (1 ≤ length f.packet) × (length f.packet ≤ 645)

abbrev pub Obtains : Decision → Option ℕ → List ℕ → (ℕ → Option (List ℕ)) → Type 0
Obtains (decision.Rest o) msg3 m offers = Unit {0}
Obtains (decision.New g) msg3 m offers = FreshSized (obtained g msg3 m offers)
Obtains (decision.Adaptive g) msg3 m offers = Unit {0}
Obtains decision.NonAdaptive msg3 m offers = Unit {0}

-- the process that a grant names is one of the eight
abbrev pub NamedBelow : CellKind → Option GrantInForce → Type 0
NamedBelow Plain g = Unit {0}
NamedBelow Bundled g = Unit {0}
NamedBelow Asynchronous None = Unit {0}
NamedBelow Asynchronous (Some g) = g.process < 8
