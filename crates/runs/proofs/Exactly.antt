-- The sendings and new transmissions of a run, counted on the events and on the stays.
use Rattle.std.proofs.Common.{◌≡◌, ◌+◌, true, List, [], ◌∷◌, length, sym, refl, ap, ◌∙◌, zero-add, arith}
use Rattle.terms.specs.Sendings.{Sending}
use Rattle.rules.specs.Subframe.{Event, answers, meets, starts, sends, flushes, deposits}
use Rattle.runs.specs.Runs.{Past, happened}
use Rattle.runs.specs.Stays.{Stay, Log, recorded, recorded_all, empty_log, with_met, with_sending, with_end, replaced, answer_met, subframe_met, passing, passing_of_stays, sendings_of_stays, sendings_of_run, starts_of_run}
use Rattle.runs.specs.Promise.{stays_of, Counted, Exact}
use Rattle.runs.proofs.Amends.{length_amended}

all_pass : (xs : List Sending) → passing (λ x. true) xs ≡ length xs
all_pass [] = refl
all_pass (x ∷ xs) = let e = all_pass xs in omega arith

all_of_stays : (ss : List Stay) → passing_of_stays (λ x. true) ss ≡ sendings_of_stays ss
all_of_stays [] = refl
all_of_stays (s ∷ ss) = let e = all_pass s.sendings in let f = all_of_stays ss in omega arith

-- each new transmission begins one stay
stays_begun : (es : List Event) (l : Log) → length (recorded_all es l).stays ≡ length l.stays + starts_of_run es
stays_begun [] l = omega arith
stays_begun (answers k t a gap ∷ es) l = stays_begun es (recorded (answers k t a gap) l) ∙ ap (λ n. n + starts_of_run es) (length_amended k (with_met (answer_met t a gap)) l.stays)
stays_begun (meets k t g gap starved ∷ es) l = stays_begun es (recorded (meets k t g gap starved) l) ∙ ap (λ n. n + starts_of_run es) (length_amended k (with_met (subframe_met t g gap starved)) l.stays)
stays_begun (starts b ∷ es) l = let e = length_amended b.process (replaced b.first) l.stays in let f = stays_begun es (recorded (starts b) l) in omega arith
stays_begun (sends x ∷ es) l = stays_begun es (recorded (sends x) l) ∙ ap (λ n. n + starts_of_run es) (length_amended x.process (with_sending x) l.stays)
stays_begun (flushes k t ∷ es) l = stays_begun es (recorded (flushes k t) l) ∙ ap (λ n. n + starts_of_run es) (length_amended k (with_end t) l.stays)
stays_begun (deposits b ∷ es) l = stays_begun es (recorded (deposits b) l)

pub exact_of : (p : Past) → Counted p → Exact p
exact_of p c =
    let e : sendings_of_stays (stays_of p) ≡ sendings_of_run (happened p) = sym (all_of_stays (stays_of p)) ∙ c.once (λ x. true) in
    record {
      taken = c.count ∙ ap (λ n. p.count + n) e;
      sendings = c.tally_sendings ∙ e;
      packets = c.tally_packets ∙ stays_begun (happened p) empty_log ∙ zero-add (starts_of_run (happened p));
    }
