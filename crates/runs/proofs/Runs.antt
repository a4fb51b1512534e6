-- A past with one more call.
use Rattle.std.proofs.Common.{◌≡◌, List, [], ◌∷◌, ◌++◌, sym, refl, ap, ◌∙◌, append_assoc, append-nil}
use Rattle.terms.specs.declared.setup.Setup.{Setup}
use Rattle.runs.specs.Runs.{World, Call, step, world_after, events_of, Past, set_up_world, world_now, happened, past_with}

world_append : (su : Setup) (w : World) (cs ds : List Call) → world_after su w (cs ++ ds) ≡ world_after su (world_after su w cs) ds
world_append su w [] ds = refl
world_append su w (c ∷ cs) ds = world_append su (step su w c).world cs ds

events_append : (su : Setup) (w : World) (cs ds : List Call) → events_of su w (cs ++ ds) ≡ events_of su w cs ++ events_of su (world_after su w cs) ds
events_append su w [] ds = refl
events_append su w (c ∷ cs) ds = ap (λ es. (step su w c).events ++ es) (events_append su (step su w c).world cs ds) ∙ sym (append_assoc (step su w c).events (events_of su (step su w c).world cs) (events_of su (world_after su (step su w c).world cs) ds))

-- its world is the call applied to the world of the past
pub world_with : (p : Past) (c : Call) → world_now (past_with p c) ≡ (step p.setup (world_now p) c).world
world_with p c = world_append p.setup (set_up_world p) p.calls (c ∷ [])

-- and its events are those of the past and of the call
pub happened_with : (p : Past) (c : Call) → happened (past_with p c) ≡ happened p ++ (step p.setup (world_now p) c).events
happened_with p c = events_append p.setup (set_up_world p) p.calls (c ∷ []) ∙ ap (λ es. happened p ++ es) (append-nil (step p.setup (world_now p) c).events)
