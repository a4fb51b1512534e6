-- UL grant reception (TS 36.321, 5.4.1): the grant in force in a subframe, the stored configured grant, and the reference NDI.
use Rattle.std.specs.Prelude.{ℕ, ◌-◌, ◌%◌, Bool, cond, ◌&&◌, Some, None, Option, ◌==◌, nat_lt}
use Rattle.terms.specs.declared.setup.Setup.{Setup}
use Rattle.terms.specs.declared.grant.Grant.{Grant}
use Rattle.terms.specs.declared.grant.Reception.{Reception}
use Rattle.terms.specs.declared.grant.Reception.TheVariants.{CRnti, TemporaryCRnti, SpsRetransmission, Configured, RandomAccessResponse}
use Rattle.terms.specs.declared.grant.GrantInForce.{GrantInForce}
use Rattle.terms.specs.declared.grant.ConfiguredGrant.{ConfiguredGrant}
use Rattle.terms.specs.declared.process.Process.{Process}

-- kind 2 with NDI 0 activates a configured grant
abbrev pub activates : Grant → Bool
activates g = g.kind == 2 && g.ndi == 0

-- how a grant of kind 0, 1, 2 or 4 comes into force; kind 3, the release, does not, nor does any other value
abbrev pub reception_of : Grant → Option Reception
reception_of g =
    cond (g.kind == 0) (Some (CRnti g.ndi))
    (cond (g.kind == 1) (Some TemporaryCRnti)
    (cond (g.kind == 2) (cond (g.ndi == 0) (Some Configured) (Some SpsRetransmission))
    (cond (g.kind == 4) (Some RandomAccessResponse) None)))

abbrev pub in_force_by : Grant → Option Reception → Option GrantInForce
in_force_by g None = None
in_force_by g (Some r) = Some (record { reception = r; mcs = g.mcs; version = record { 0 = g.version }; process = g.process; repetitions = g.repetitions; resource = g.resource; size = g.size })

-- a grant over the air, as it is in force
abbrev pub over_the_air : Grant → Option GrantInForce
over_the_air g = in_force_by g (reception_of g)

-- the stored grant as it is in force
abbrev pub recurring : ConfiguredGrant → GrantInForce
recurring c = record { reception = Configured; mcs = c.mcs; version = record { 0 = 0 }; process = 0; repetitions = 1; resource = c.resource; size = c.size }

-- the stored grant recurs a positive multiple of the interval after its activation
abbrev pub recurs : Setup → ℕ → ConfiguredGrant → Bool
recurs su t c = nat_lt 0 su.interval && (nat_lt c.since t && (t - c.since) % su.interval == 0)

abbrev pub stored_in_force : Setup → ℕ → Option ConfiguredGrant → Option GrantInForce
stored_in_force su t None = None
stored_in_force su t (Some c) = cond (recurs su t c) (Some (recurring c)) None

-- the grant in force in subframe t: one over the air takes the place of the stored one
abbrev pub grant_in_force : Setup → ℕ → Option ConfiguredGrant → Option Grant → Option GrantInForce
grant_in_force su t c (Some g) = over_the_air g
grant_in_force su t c None = stored_in_force su t c

-- an activation is stored from t on, and a release clears what is stored
abbrev pub stored_after : ℕ → Option ConfiguredGrant → Option Grant → Option ConfiguredGrant
stored_after t c (Some g) = cond (activates g) (Some (record { since = t; mcs = g.mcs; resource = g.resource; size = g.size })) (cond (g.kind == 3) None c)
stored_after t c None = c

-- any grant in force that is not for the C-RNTI or the Temporary C-RNTI makes the reference NDI of its process absent
abbrev pub reference_kept : Reception → Option ℕ → Option ℕ
reference_kept (CRnti n) r = r
reference_kept TemporaryCRnti r = r
reference_kept SpsRetransmission r = None
reference_kept Configured r = None
reference_kept RandomAccessResponse r = None

abbrev pub with_reference : Process → Option ℕ → Process
with_reference p r = record { buffer = p.buffer; from_msg3 = p.from_msg3; current_tx_nb = p.current_tx_nb; harq_feedback = p.harq_feedback; current_irv = p.current_irv; mcs = p.mcs; resource = p.resource; reference_ndi = r; awaits_answer = p.awaits_answer }

-- a process once the grant in force is known
abbrev pub referred : Option GrantInForce → Process → Process
referred None p = p
referred (Some g) p = with_reference p (reference_kept g.reception p.reference_ndi)
