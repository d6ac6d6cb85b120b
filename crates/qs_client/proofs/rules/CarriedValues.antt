-- The laws `sends_are_parted` and `acts_lose_nothing`: what a client does once a parcel was sent does not need what the
-- parcel carried, and with what an act carries the client is as it was. The mind keeps only what is left to be done,
-- and gives the object or the chunk away, so the layers above need both laws to say that nothing was lost. The idea: a
-- case for each stage and for what is held.
use Rattle.std.proofs.Common.{◌≡◌, ℕ, Bool, true, false, nat_lt, if◌then◌else◌, List, Option, Some, None, refl, ap, ◌∙◌}
use Rattle.qs_objects.specs.audit.Journals.{HeldState}
use Rattle.qs_objects.specs.declared.held.Ticket.{Ticket}
use Rattle.qs_objects.specs.declared.Request.{Request}
use Rattle.qs_graph.specs.audit.Synced.{Synced, Done, Call, Sync, Query}
use Rattle.qs_chunk.specs.audit.Batch.{Batch}
use Rattle.qs_chunk.specs.declared.parcel.Parcel.TheVariants as parcels
use Rattle.qs_client.specs.audit.rules.Client.{Client, Settings, ClientStage, act_at, between, runs, full, awaits, leaves, call_act, clear, set_chunk, set_held, rest_act, after_home, after_work, work}
use Rattle.qs_client.specs.rules.ClientLaws.{ActsLoseNothing, IsSizedAct, LosesNothing, SendsAreParted, with_act}
use Rattle.qs_client.specs.audit.rules.Outgoings.{without_act, resume}
use Rattle.qs_client.specs.declared.rules.act.Act.{Act}
use Rattle.qs_client.proofs.rules.Puts.{put_same, put_twice}
use Rattle.qs_client.specs.declared.rules.act.Act.TheVariants as acts

module _ (settings : Settings) (ticket : Ticket) (reserved : List ℕ) (m : Client) (h : ℕ) where
  no_home_between : (t : Bool) (x : HeldState) → ◌≡◌ {A = Act} (if t then acts.Reserve else acts.Finished) (acts.Send h (parcels.Home x)) → ⊥
  no_home_between true x e = cc
  no_home_between false x e = cc

  no_home_full : (g : ℕ) (c : Option (List Request)) (x : HeldState) → clear settings g None c acts.Finished ≡ acts.Send h (parcels.Home x) → ⊥
  no_home_full g (Some rs) x e = cc
  no_home_full g None x e = cc

  home_parted : (blocks : ℕ) (x : HeldState) (p : ClientStage) → act_at settings blocks m p ≡ acts.Send h (parcels.Home x)
      → after_home settings ticket reserved m h p ≡ resume settings ticket reserved (set_held m h None) p
  home_parted blocks x (between l) e = absurd (no_home_between (nat_lt m.begun blocks) x e)
  home_parted blocks x (full g rest) e = absurd (no_home_full g (m.chunk g) x e)
  home_parted blocks x (awaits g rest) e = absurd (cc)
  home_parted blocks x _ e = refl

  no_work_between : (t : Bool) (c : Batch Request) → ◌≡◌ {A = Act} (if t then acts.Reserve else acts.Finished) (acts.Send h (parcels.Work c)) → ⊥
  no_work_between true c e = cc
  no_work_between false c e = cc

  work_parted : (blocks : ℕ) (c : Batch Request) (p : ClientStage) → act_at settings blocks m p ≡ acts.Send h (parcels.Work c)
      → after_work settings ticket reserved m h p ≡ resume settings ticket reserved (set_chunk m h None) p
  work_parted blocks c (between l) e = absurd (no_work_between (nat_lt m.begun blocks) c e)
  work_parted blocks c (awaits g rest) e = absurd (cc)
  work_parted blocks c _ e = refl

pub sends_are_parted : SendsAreParted
sends_are_parted settings ticket reserved blocks m h (parcels.Home x) e = home_parted settings ticket reserved m h blocks x m.stage e
sends_are_parted settings ticket reserved blocks m h (parcels.Work c) e = work_parted settings ticket reserved m h blocks c m.stage e
sends_are_parted settings ticket reserved blocks m h _ e = refl

module _ (settings : Settings) (m : Client) where
  nothing_carried : (other : Act) → with_act (without_act m other) other ≡ m → IsSizedAct settings.size other → LosesNothing settings m other
  nothing_carried other whole sized = record { whole = whole; sized = sized }

  home_whole : (h : ℕ) (x : HeldState) → m.held h ≡ Some x → LosesNothing settings m (acts.Send h (parcels.Home x))
  home_whole h x e = record {
    whole =
        ap (λ f. record m { held = f }) (put_twice m.held h None (Some x) ∙ put_same m.held h (Some x) e);
    sized = tt;
  }

  work_whole : (h : ℕ) (rs : List Request) → m.chunk h ≡ Some rs → LosesNothing settings m (acts.Send h (work settings rs))
  work_whole h rs e = record {
    whole =
        ap (λ f. record m { chunk = f }) (put_twice m.chunk h None (Some rs) ∙ put_same m.chunk h (Some rs) e);
    sized = refl;
  }

  chunk_clears : (h : ℕ) (c : Option (List Request)) (other : Act) → m.chunk h ≡ c → LosesNothing settings m other
      → LosesNothing settings m (clear settings h None c other)
  chunk_clears h (Some rs) other f w = work_whole h rs f
  chunk_clears h None other f w = w

  all_clears : (h : ℕ) (x : Option HeldState) (c : Option (List Request)) (other : Act) → m.held h ≡ x → m.chunk h ≡ c → LosesNothing settings m other
      → LosesNothing settings m (clear settings h x c other)
  all_clears h (Some x) c other e f w = home_whole h x e
  all_clears h None c other e f w = chunk_clears h c other f w

  call_whole : (h : ℕ) (x : Option HeldState) (c : Option (List Request)) → m.held h ≡ x → m.chunk h ≡ c → LosesNothing settings m (call_act settings h x c)
  call_whole h (Some x) c e f = home_whole h x e
  call_whole h None (Some rs) e f = work_whole h rs f
  call_whole h None None e f = nothing_carried (acts.NeedChunk h) refl tt

  rest_whole : (rest : Synced) → LosesNothing settings m (rest_act settings m rest)
  rest_whole (Done l) = nothing_carried acts.Finished refl tt
  rest_whole (Call r next) = call_whole r.object (m.held r.object) (m.chunk r.object) refl refl
  rest_whole (Sync h next) = all_clears h (m.held h) (m.chunk h) (acts.Send h parcels.Sync) refl refl (nothing_carried (acts.Send h parcels.Sync) refl tt)
  rest_whole (Query r next) = nothing_carried (acts.Await r.object) refl tt

  between_whole : (t : Bool) → LosesNothing settings m (if t then acts.Reserve else acts.Finished)
  between_whole true = nothing_carried acts.Reserve refl tt
  between_whole false = nothing_carried acts.Finished refl tt

  act_whole : (blocks : ℕ) (p : ClientStage) → LosesNothing settings m (act_at settings blocks m p)
  act_whole blocks (between l) = between_whole (nat_lt m.begun blocks)
  act_whole blocks (runs rest) = rest_whole rest
  act_whole blocks (full h rest) = chunk_clears h (m.chunk h) acts.Finished refl (nothing_carried acts.Finished refl tt)
  act_whole blocks (awaits h rest) = nothing_carried (acts.Await h) refl tt
  act_whole blocks (leaves h hs l) = all_clears h (m.held h) (m.chunk h) (acts.Send h parcels.End) refl refl (nothing_carried (acts.Send h parcels.End) refl tt)

pub acts_lose_nothing : ActsLoseNothing
acts_lose_nothing settings blocks m = act_whole settings m blocks m.stage
