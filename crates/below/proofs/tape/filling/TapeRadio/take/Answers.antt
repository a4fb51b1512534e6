use Rattle.std.proofs.Common.{◌≡◌, ℕ, ◌≤◌, ◌/◌, List, length, ap, ◌∙◌, subst, rules}
use Rattle.std.specs.Borrow.{MutBor}
use Rattle.std.proofs.Math.Bridge.{le_prop}
use Rattle.below.specs.declared.tape.Tape.{Tape}
use Rattle.below.proofs.tape.filling.TapeRadio.take.Goals as goal
use Rattle.below.proofs.tape.filling.TapeRadio.take.Goals.{then-not-ready-via-then-not-ready, then-not-ready-via-else-not-ready+then-not-write_at}

-- tapes over the same bytes with the same count are the same
same_tape : (b b' : MutBor (List ℕ)) (n : ℕ) (f : n ≤ length b.now / 661) (f' : n ≤ length b'.now / 661) → b ≡ b' → (let t : Tape = record { bytes = b; taken = n; filled = f } in let t' : Tape = record { bytes = b'; taken = n; filled = f' } in t ≡ t')
same_tape b b' n f f' e =
    let Same : MutBor (List ℕ) → Type 0 = λ x. (g : n ≤ length x.now / 661) → (let t : Tape = record { bytes = b; taken = n; filled = f } in let u : Tape = record { bytes = x; taken = n; filled = g } in t ≡ u) in
    let here : Same b = λ g. ap (λ (h : n ≤ length b.now / 661). let t : Tape = record { bytes = b; taken = n; filled = h } in t) (le_prop f g) in
    subst Same e here f'

pub returns-then-not-ready-clause-refused : goal.returns-then-not-ready-clause-refused
returns-then-not-ready-clause-refused c = λ _. elim c.then-not-ready.branch [
  | then-not-ready-via-then-not-ready w ↦ search rules
  | then-not-ready-via-else-not-ready+then-not-write_at w ↦ w.self-is ∙ same_tape _ _ _ _ c.args.self.now.filled (search rules)
]
