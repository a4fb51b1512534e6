-- A packet written to the front of a stretch of packet memory.
use Rattle.std.proofs.Common.{◌≡◌, ℕ, ◌+◌, ◌-◌, ◌*◌, ◌≤◌, true, List, length, Some, Option, unwrap_or, sym, ap, ◌∙◌, subst, arith, length-drop, length-take, append_assoc}
use Rattle.std.specs.List.{copy_within}
use Rattle.terms.specs.declared.grant.GrantInForce.{GrantInForce}
use Rattle.terms.specs.declared.grant.Reception.{Reception}
use Rattle.terms.specs.declared.grant.Reception.TheVariants.{CRnti, TemporaryCRnti, SpsRetransmission, Configured, RandomAccessResponse}
use Rattle.rules.specs.Memory.{part, written}
use Rattle.terms.specs.declared.decision.NewPacket.{NewPacket}
use Rattle.rules.specs.Entity.{Fresh, obtained, obtained_by, msg3_taken}
use Rattle.rules.specs.Invariant.{FreshSized}
use Rattle.cell.specs.Effects.{new_packet}

part_length : (m : List ℕ) (k n : ℕ) → 645 * k + n ≤ length m → length (part m k n) ≡ n
part_length m k n h = simp (length-take, length-drop) (omega arith)

-- the packet of the Msg3 buffer, copied to another stretch
pub copied : (m ys : List ℕ) (a b r k n : ℕ) → a ≡ 5160 → b ≡ 645 * k → r ≡ n → 5160 + n ≤ length m → ys ≡ copy_within m a (a + r) b → ys ≡ written m k (part m 8 n)
copied m ys a b r k n ea eb er h e =
    let l : length (part m 8 n) ≡ n = part_length m 8 n (omega arith) in
    let d : a + r - a ≡ n = omega arith in
    e ∙ rw (d, ea, eb, append_assoc, l)

abbrev marked : ℕ → Option NewPacket
marked n = Some (record { length = n; from_msg3 = true })

-- the length of a Msg3 packet that is taken is that of the one that is held
msg3_lengths : (r : Reception) (o : Option ℕ) (n : ℕ) → Some n ≡ msg3_taken r o → (1 ≤ unwrap_or o 1) × (unwrap_or o 1 ≤ 645) → (1 ≤ n) × (n ≤ 645)
msg3_lengths (CRnti x) o n e h = cc
msg3_lengths TemporaryCRnti o n e h = cc
msg3_lengths SpsRetransmission o n e h = cc
msg3_lengths Configured o n e h = cc
msg3_lengths RandomAccessResponse o n e h = subst (λ q. (1 ≤ unwrap_or q 1) × (unwrap_or q 1 ≤ 645)) (sym e) h

module _ (g : GrantInForce) (msg3 : Option ℕ) (m : List ℕ) (offers : ℕ → Option (List ℕ)) (n : ℕ) (taken : Some n ≡ msg3_taken g.reception msg3) (held : (1 ≤ unwrap_or msg3 1) × (unwrap_or msg3 1 ≤ 645)) (l : 5805 ≤ length m) where
  from_msg3 : Some (record { from_msg3 = true; packet = part m 8 n }) ≡ obtained g msg3 m offers
  from_msg3 = ap (λ o. obtained_by o g.size m offers) taken

  lengths : (1 ≤ n) × (n ≤ 645)
  lengths = msg3_lengths g.reception msg3 n taken held

  whole : length (part m 8 n) ≡ n
  whole = part_length m 8 n (omega (arith, lengths.1))

  pub msg3_packet : marked n ≡ new_packet (obtained g msg3 m offers)
  msg3_packet = ap marked (sym whole) ∙ ap new_packet from_msg3

  pub msg3_sized : FreshSized (obtained g msg3 m offers)
  msg3_sized =
      let P : Option Fresh → Type 0 = λ f. FreshSized f in
      subst P from_msg3 (omega (arith, whole, lengths.0), omega (arith, whole, lengths.1))
