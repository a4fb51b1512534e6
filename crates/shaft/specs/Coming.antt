-- What comes to the cell over the air.
use Rattle.std.specs.Prelude.{ℕ, cond, ◌||◌, Some, None, Option, ◌==◌}
use Rattle.terms.specs.declared.grant.Grant.{Grant}
use Rattle.terms.specs.declared.process.Feedback.{Feedback}
use Rattle.terms.specs.declared.process.Feedback.TheVariants.{Ack, Nack}

-- a C-RNTI grant with this NDI, MCS and size
abbrev pub c_rnti_grant : ℕ → ℕ → ℕ → Grant
c_rnti_grant ndi mcs size = record { kind = 0; ndi = ndi; mcs = mcs; version = 0; process = 0; repetitions = 1; resource = 7; size = size }

-- the grant of each subframe
abbrev pub grant_coming : ℕ → Option Grant
grant_coming t =
    cond (t == 0) (Some (c_rnti_grant 1 5 5))
    (cond (t == 1) (Some (c_rnti_grant 1 5 2))
    (cond (t == 2) (Some (c_rnti_grant 1 5 6))
    (cond (t == 3) (Some (c_rnti_grant 1 5 3))
    (cond (t == 10) (Some (c_rnti_grant 1 30 6))
    (cond (t == 24) (Some (c_rnti_grant 0 12 12)) None)))))

-- the answer of each subframe
abbrev pub answer_coming : ℕ → Option Feedback
answer_coming t = cond (t == 4) (Some Ack) (cond (t == 5 || t == 6) (Some Nack) None)
