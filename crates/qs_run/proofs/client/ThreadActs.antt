-- What each act of a client's thread keeps: its deeds grow by one, and its share and its ends of lanes show it; and
-- what each call needs.
use Rattle.std.proofs.Common.{◌≡◌, ◌<◌, arith, ℕ, ◌+◌, ◌==◌, true, true≢false, false, List, [], ◌∷◌, ◌++◌, refl, sym, ap, ◌∙◌, subst, add-zero, append-nil, Option, Some, rules}
use Rattle.qs_run.proofs.Names.{Act, Batch, ClientModel, Deed, DeedsLead, HeldState, IsCodeOf, IsMidRun, IsSome, IsSound, MayFollow, Mode, OutView, Parcel, ProgramShape, Request, ShareView}
use Rattle.qs_run.proofs.Names.{Ticket, batch, blocks_of, deeds_join, eqb_self, finish, fresh_mind, hands_out, is_asked, lane_of, mind_after_begin, mind_after_chunk, mind_after_object}
use Rattle.qs_run.proofs.Names.{most_handlers, next_act, next_mind, next_ticket, reservations, reservations_join, reserved_inside, reserves, sent_to, slice_set}
use Rattle.qs_client.specs.declared.rules.act.Act.TheVariants as acts
use Rattle.qs_client.specs.audit.ClientRuns as deeds
use Rattle.qs_desk.specs.Tickets.{ticket}
use Rattle.qs_run.specs.client.ClientThreads.{AreDone, HasDone, IsFresh, out_lane_at}
use Rattle.qs_run.proofs.ListPlaces.{some_there}
use Rattle.qs_run.proofs.client.DoneDeeds.{HasMore, IsElsewhere, as_before, at_one_lane}
use Rattle.qs_run.proofs.client.RunActs.{act_reserved, begun_is, block_left, send_follows, size_is}

-- where there was a lane there is one
still_there : (h : ℕ) (done : List Deed) (a b : Option OutView) → HasDone h done a b → IsSome a → IsSome b
still_there h done v b was some = search (rules, true≢false)

-- what is known of a lane that began fresh
lane_shows : (size h : ℕ) (done : List Deed) (start : Option OutView) (lane : OutView) → IsFresh size start → HasDone h done start (Some lane)
    → (lane.size ≡ size) × (lane.sent ≡ sent_to h done)
lane_shows size h done v lane fresh was = search (rules, fresh)

-- before its first deed a lane is as it was
nothing_done : (size h : ℕ) (start : Option OutView) → IsFresh size start → HasDone h [] start start
nothing_done size h v fresh = search (rules, fresh, add-zero)

share_path : (s : ShareView) (c n : ℕ) → s.client ≡ c → s.count ≡ n → s ≡ record { client = c; count = n }
share_path s c n a b = λ i. record { client = a i; count = b i }

module _ (p : ProgramShape) (c : ℕ) (first : ClientModel) (start : List (Option OutView)) where
  -- what the thread has done so far, whatever it was
  abbrev pub HasDeeds : ClientModel → ShareView → List (Option OutView) → Type 0
  HasDeeds m share lanes = (done : List Deed) × DeedsLead c first done m × AreDone c start done share lanes

  -- before its first block
  pub begins : (share : ShareView) → share.client ≡ c → share.count ≡ 0 → ((h : ℕ) → IsFresh first.size (out_lane_at start h)) → HasDeeds first share start
  begins share client none fresh = search (rules, share_path, nothing_done)

-- a thread in the midst of its run: what held before it, what it has done, and its mind once it told its next act
pub record IsRunning (p : ProgramShape) (c : ℕ) (first : ClientModel) (start : List (Option OutView)) (m n : ClientModel) (share : ShareView) (lanes : List (Option OutView)) : Type 0 where
  pub sound : IsSound p
  pub code : (mode : Mode) × IsCodeOf p mode c first.code
  pub at_first : first ≡ fresh_mind first.code first.size
  pub fresh : (h : ℕ) → IsFresh first.size (out_lane_at start h)
  pub reached : (k h : ℕ) → k < blocks_of p c → reserves p (ticket c k) h ≡ true → IsSome (out_lane_at start h)
  pub kept : HasDeeds p c first start m share lanes
  pub at : n ≡ next_mind m

module _ {p : ProgramShape} {c : ℕ} {first : ClientModel} {start : List (Option OutView)} {m n : ClientModel} {share : ShareView} {lanes : List (Option OutView)}
    (run : IsRunning p c first start m n share lanes) where
  mid : IsMidRun p c first.code first.size run.kept.0 m
  mid = record { sound = run.sound; mode = run.code.0; of = run.code.1; lead = subst (λ (x : ClientModel). DeedsLead c x run.kept.0 m) run.at_first run.kept.1 }

  -- a lane is there for what the mind asks for
  pub reaches : (h : ℕ) (act : Act) → next_act m ≡ act → lane_of act ≡ Some h → (h < most_handlers) × IsSome (out_lane_at lanes h)
  reaches h act is uses =
      let own = act_reserved p c first.code first.size run.kept.0 m mid h act is uses in
      let object = reserved_inside p run.sound (ticket c own.0) h own.2 in
      let few = run.sound.objects in
      (omega (arith, object, few), still_there h run.kept.0 (out_lane_at start h) (out_lane_at lanes h) (run.kept.2.ends h) (run.reached own.0 h own.1 own.2))

  shows : (h : ℕ) (lane : OutView) → out_lane_at lanes h ≡ Some lane → (lane.size ≡ first.size) × (lane.sent ≡ sent_to h run.kept.0)
  shows h lane is = search (rules, lane_shows, run)

  -- it reserves where a block is left
  pub has_left : next_act m ≡ acts.Reserve → share.count < blocks_of p share.client
  has_left is =
      subst (λ (s : ShareView). s.count < blocks_of p s.client) (sym run.kept.2.booked) (block_left p c first.code first.size run.kept.0 m mid is)

  pub count_is : next_act m ≡ acts.Reserve → share.count ≡ n.client.begun
  count_is is =
      ap (λ (s : ShareView). s.count) run.kept.2.booked ∙ (sym (begun_is p c first.code first.size run.kept.0 m mid)
      ∙ (ap (λ act. (hands_out (finish m) act).client.begun) (sym is) ∙ ap (λ (n : ClientModel). n.client.begun) (sym run.at)))

  pub kept_by_ticket : (m' : ClientModel) (t : Ticket) (share' : ShareView) → next_act m ≡ acts.Reserve → t ≡ ticket share.client share.count
      → share' ≡ record share { count = share.count + 1 } → m' ≡ mind_after_begin n t → HasDeeds p c first start m' share' lanes
  kept_by_ticket m' t share' is ticket_is share_is books =
      let d = deeds.reserves in
      let mine : t ≡ next_ticket c n =
      ticket_is ∙ (λ i. ticket ((ap (λ (s : ShareView). s.client) run.kept.2.booked) i) (count_is is i)) in
      let lead : mind_after_begin (next_mind m) (next_ticket c (next_mind m)) ≡ m' =
      sym (books ∙ (ap (mind_after_begin n) mine ∙ ap (λ (n : ClientModel). mind_after_begin n (next_ticket c n)) run.at)) in (
        run.kept.0 ++ d ∷ [],
        deeds_join c run.kept.0 (d ∷ []) first m m' run.kept.1 (is, lead),
        record {
          booked = grind (arith, share_path, run, reservations_join);
          ends = λ h. as_before h run.kept.0 d (out_lane_at start h) (out_lane_at lanes h) (refl, refl, refl) (run.kept.2.ends h);
        },
      )

  -- a deed that reserves nothing and shows at the lane to handler h alone
  at_lane : (m' : ClientModel) (d : Deed) (h : ℕ) (lane new : OutView) (lanes' : List (Option OutView)) → DeedsLead c m (d ∷ []) m' → reservations (d ∷ []) ≡ 0
      → out_lane_at lanes h ≡ Some lane → lanes' ≡ slice_set lanes h (Some new) → HasMore h d lane new → ((a : ℕ) → (h == a) ≡ false → IsElsewhere a d) → HasDeeds p c first start m' share lanes'
  at_lane m' d h lane new lanes' lead none here put more others = (
    run.kept.0 ++ d ∷ [],
    deeds_join c run.kept.0 (d ∷ []) first m m' run.kept.1 lead,
    record { booked = grind (arith, run, reservations_join); ends = at_one_lane start lanes lanes' run.kept.0 d h lane new run.kept.2.ends here put more others },
  )

  found : (h : ℕ) (act : Act) → next_act m ≡ act → lane_of act ≡ Some h → (lane : OutView) × (out_lane_at lanes h ≡ Some lane)
  found h act is uses = some_there (out_lane_at lanes h) (reaches h act is uses).1

  -- what it sends may follow
  pub may_follow : (h : ℕ) (parcel : Parcel) → next_act m ≡ acts.Send h parcel → (lane : OutView) → out_lane_at lanes h ≡ Some lane
      → MayFollow lane.size (is_asked false lane.sent) parcel
  may_follow h parcel is lane here =
      let s = shows h lane here in
      subst (λ size. MayFollow size (is_asked false lane.sent) parcel) (sym s.0)
      (subst (λ ps. MayFollow first.size (is_asked false ps) parcel) (sym s.1) (send_follows p c first.code first.size run.kept.0 m mid h parcel is))

  pub kept_by_parcel : (h : ℕ) (parcel : Parcel) (lanes' : List (Option OutView)) → next_act m ≡ acts.Send h parcel
      → ((lane : OutView) → out_lane_at lanes h ≡ Some lane → lanes' ≡ slice_set lanes h (Some (record lane { sent = lane.sent ++ parcel ∷ [] })))
      → HasDeeds p c first start n share lanes'
  kept_by_parcel h parcel lanes' is did =
      let it = found h (acts.Send h parcel) is refl in
      at_lane n (deeds.sends h parcel) h it.0 (record it.0 { sent = it.0.sent ++ parcel ∷ [] }) lanes' (is, sym run.at) refl it.1 (did it.0 it.1)
      (record { name = refl; size = refl; sent = rw (eqb_self h) refl; got = sym (append-nil it.0.got); taken = sym (add-zero it.0.taken) })
      (λ a other. (rw other refl, refl, refl))

  pub kept_by_object : (m' : ClientModel) (h : ℕ) (x : HeldState) (lanes' : List (Option OutView)) → next_act m ≡ acts.Await h → m' ≡ mind_after_object n x
      → ((lane : OutView) → out_lane_at lanes h ≡ Some lane → lanes' ≡ slice_set lanes h (Some (record lane { got = lane.got ++ x ∷ [] })))
      → HasDeeds p c first start m' share lanes'
  kept_by_object m' h x lanes' is gets did =
      let it = found h (acts.Await h) is refl in
      at_lane m' (deeds.gets h x) h it.0 (record it.0 { got = it.0.got ++ x ∷ [] }) lanes' (is, sym (gets ∙ ap (λ (n : ClientModel). mind_after_object n x) run.at)) refl it.1 (did it.0 it.1)
      (record { name = refl; size = refl; sent = sym (append-nil it.0.sent); got = rw (eqb_self h) refl; taken = sym (add-zero it.0.taken) })
      (λ a other. (refl, rw other refl, refl))

  -- by what the call says of the lane that is there: a chunk was taken, and it is empty
  abbrev pub Took : ℕ → Batch Request → List (Option OutView) → Type 0
  Took h chunk lanes' =
      (lane : OutView) → out_lane_at lanes h ≡ Some lane
      → (lanes' ≡ slice_set lanes h (Some (record lane { taken = lane.taken + 1 }))) × (chunk ≡ batch [] lane.size)

  pub is_empty : (h : ℕ) (chunk : Batch Request) (lanes' : List (Option OutView)) → next_act m ≡ acts.NeedChunk h → Took h chunk lanes'
      → chunk ≡ batch [] n.size
  is_empty h chunk lanes' is took =
      let it = found h (acts.NeedChunk h) is refl in
      (took it.0 it.1).1
      ∙ ap (batch [])
      ((shows h it.0 it.1).0 ∙ (sym (size_is p c first.code first.size run.kept.0 m mid) ∙ ap (λ (n : ClientModel). n.size) (sym run.at)))

  pub kept_by_chunk : (m' : ClientModel) (h : ℕ) (chunk : Batch Request) (lanes' : List (Option OutView)) → next_act m ≡ acts.NeedChunk h
      → m' ≡ mind_after_chunk n h → Took h chunk lanes' → HasDeeds p c first start m' share lanes'
  kept_by_chunk m' h chunk lanes' is takes took =
      let it = found h (acts.NeedChunk h) is refl in
      at_lane m' (deeds.takes_chunk h) h it.0 (record it.0 { taken = it.0.taken + 1 }) lanes' (is, sym (takes ∙ ap (λ (n : ClientModel). mind_after_chunk n h) run.at)) refl it.1 (took it.0 it.1).0
      (record { name = refl; size = refl; sent = sym (append-nil it.0.sent); got = sym (append-nil it.0.got); taken = rw (eqb_self h) refl })
      (λ a other. (refl, refl, rw other refl))
