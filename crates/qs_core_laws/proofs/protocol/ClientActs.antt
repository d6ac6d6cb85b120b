-- Each single act of a client keeps what its lanes say of its trace: it sends the object home, a chunk, a Sync or an
-- End, or takes an object or an empty chunk. The lemmas on whole acts with the quiet work after them (`ClientLogs`)
-- stand on this. Only one object's lane goes on, by one of the moves of a lane; all others stay as they were.
use Rattle.std.proofs.Common.{◌≡◌, ℕ, Bool, true, false, true≢false, if◌then◌else◌, ◌==◌, is_some, List, [], ◌∷◌, ◌++◌, refl, sym, ap, ap₂, ◌∙◌, subst, ◌⊎◌, inl, inr, ⊎_elim, append-nil, Option, Some, None, rules, arith}
use Rattle.qs_played.proofs.Names.{HeldState, part, Event, Ticket, Request, eqb_self, num_cases, reserves, ProgramShape, put, is_in, Locals, BlockRecord}
use Rattle.qs_core_laws.proofs.Names.{Synced, Call, Sync, IsSoundSynced, batch, ObjectStance, sends, asks, holds, gone, ClientLane, Parcel, Client, Settings, work, put_all, put_both, apart_from}
use Rattle.qs_chunk.specs.declared.parcel.Parcel.TheVariants as parcels
use Rattle.qs_core_laws.proofs.protocol.ClientInvariants.{in_hand, NotBoth, holding, Ready, Waiting, Leaving}
use Rattle.qs_core_laws.proofs.protocol.LaneMoves.{ContinuesLane, lane_goes, goes_work, goes_sync, goes_got, goes_home, goes_end}
use Rattle.qs_core_laws.proofs.protocol.SilentSteps.{sound_more}

lane_act : (t : Ticket) (ps : List Parcel) (gs : List HeldState) (es : List Event) (s : ObjectStance) (ps' : List Parcel) (s' : ObjectStance) → ClientLane t false ps gs es s → ContinuesLane t s ps' [] [] s' → ClientLane t false (ps ++ ps') gs es s'
lane_act t ps gs es s ps' s' k g =
    subst (λ gs. ClientLane t false (ps ++ ps') gs es s') (append-nil gs) (subst (λ es. ClientLane t false (ps ++ ps') (gs ++ []) es s') (append-nil es) (lane_goes t false ps gs es s ps' [] [] s' k g))

lane_got : (t : Ticket) (ps : List Parcel) (gs : List HeldState) (es : List Event) (x : HeldState) → ClientLane t false ps gs es asks → ClientLane t false ps (gs ++ x ∷ []) es (holds x)
lane_got t ps gs es x k =
    subst (λ ps. ClientLane t false ps (gs ++ x ∷ []) es (holds x)) (append-nil ps) (subst (λ es. ClientLane t false (ps ++ []) (gs ++ x ∷ []) es (holds x)) (append-nil es) (lane_goes t false ps gs es asks [] (x ∷ []) [] (holds x) k (goes_got t x)))

none_some : {A : Type 0} (o : Option A) (x : A) → o ≡ None → o ≡ Some x → ⊥
none_some o x a b = cc

module _ (program : ProgramShape) (t : Ticket) (sent : ℕ → List Parcel) (got : ℕ → List HeldState) where
  no_chunk : (m : Client) (h : ℕ) (x : HeldState) → NotBoth m h → m.held h ≡ Some x → m.chunk h ≡ None
  no_chunk m h x v e = search (rules, none_some)

  no_held : (m : Client) (h : ℕ) (rs : List Request) → NotBoth m h → m.chunk h ≡ Some rs → m.held h ≡ None
  no_held m h rs v e = search (rules, none_some)

  pub home_ready : (m : Client) (pg : BlockRecord) (code : Synced) (h : ℕ) (x : HeldState) → m.held h ≡ Some x → IsSoundSynced (put (holding m) h false) code → Ready program t sent got m pg code
      → Ready program t (put sent h (sent h ++ parcels.Home x ∷ [])) got (record m { held = put m.held h None }) pg code
  home_ready m pg code h x e s k = search (rules, no_chunk, put_both, lane_act, goes_home, put_all, sound_more, holding, is_some)

  pub sound_order : (s : ℕ → Bool) (r : Request) (next : Synced) → IsSoundSynced s (Call r next) → IsSoundSynced (put s r.object false) (Call r next)
  sound_order s r next k = search (rules, sound_more)

  pub sound_synced : (s : ℕ → Bool) (h : ℕ) (next : Synced) → IsSoundSynced s (Sync h next) → IsSoundSynced (put s h false) (Sync h next)
  sound_synced s h next k = search (rules, sound_more)

  pub work_ready : (settings : Settings) (m : Client) (pg : BlockRecord) (code : Synced) (h : ℕ) (rs : List Request) → m.chunk h ≡ Some rs → Ready program t sent got m pg code
      → Ready program t (put sent h (sent h ++ work settings rs ∷ [])) got (record m { chunk = put m.chunk h None }) pg code
  work_ready settings m pg code h rs e k = search (rules, no_held, put_both, lane_act, goes_work, put_all)

  pub sync_waits : (m : Client) (pg : BlockRecord) (h : ℕ) (next : Synced) → m.held h ≡ None → m.chunk h ≡ None → Ready program t sent got m pg (Sync h next)
      → Waiting program t (put sent h (sent h ++ parcels.Sync ∷ [])) got m pg h next
  sync_waits m pg h next n c k =
      let old = subst (ClientLane t false (sent h) (got h) (part h pg.trace)) (ap₂ in_hand n c) (k.lanes h) in
      record {
        block_record = k.block_record;
        rest = k.rest;
        lanes = put_all (λ g (ps : List Parcel). ClientLane t false ps (got g) (part g pg.trace) (if h == g then asks else in_hand (m.held g) (m.chunk g))) sent h (sent h ++ parcels.Sync ∷ [])
            (rw (eqb_self h) (lane_act t (sent h) (got h) (part h pg.trace) (sends []) (parcels.Sync ∷ []) asks old (goes_sync t)))
            (λ g other. rw other (k.lanes g));
        not_both = k.not_both;
        own = k.own;
        held = n;
        chunk = c;
        at = k.on.0;
        sound = k.sound;
        on = k.on.1;
      }

  pub got_ready : (m : Client) (pg : BlockRecord) (h : ℕ) (code : Synced) (x : HeldState) → Waiting program t sent got m pg h code
      → Ready program t sent (put got h (got h ++ x ∷ [])) (record m { held = put m.held h (Some x) }) pg code
  got_ready m pg h code x k =
      let old : ClientLane t false (sent h) (got h) (part h pg.trace) asks = rw (eqb_self h) at (k.lanes h) in
      record {
        block_record = k.block_record;
        rest = k.rest;
        lanes = search (rules, put_both, lane_got);
        not_both = put_all (λ g (o : Option HeldState). (o ≡ None) ⊎ (m.chunk g ≡ None)) m.held h (Some x) (inr k.chunk) (λ g other. k.not_both g);
        own = put_all (λ g (o : Option HeldState). reserves program t g ≡ false → (o ≡ None) × (m.chunk g ≡ None)) m.held h (Some x) (λ out. absurd (true≢false (sym k.at ∙ out))) (λ g other. k.own g);
        sound = sound_more (put (holding m) h true) (holding (record m { held = put m.held h (Some x) })) code more k.sound;
        on = k.on;
      }
    where
      more : (g : ℕ) → put (holding m) h true g ≡ true → is_some (put m.held h (Some x) g) ≡ true
      more g = search (rules, holding)

  pub chunk_ready : (m : Client) (pg : BlockRecord) (code : Synced) (h : ℕ) → m.held h ≡ None → m.chunk h ≡ None → reserves program t h ≡ true → Ready program t sent got m pg code
      → Ready program t sent got (record m { chunk = put m.chunk h (Some []) }) pg code
  chunk_ready m pg code h n c mh k = record {
    block_record = k.block_record;
    rest = k.rest;
    lanes = search (rules, put_all);
    not_both = put_all (λ g (c : Option (List Request)). (m.held g ≡ None) ⊎ (c ≡ None)) m.chunk h (Some []) (inl n) (λ g other. k.not_both g);
    own = put_all (λ g (c : Option (List Request)). reserves program t g ≡ false → (m.held g ≡ None) × (c ≡ None)) m.chunk h (Some []) (λ out. absurd (true≢false (sym mh ∙ out))) (λ g other. k.own g);
    sound = k.sound;
    on = k.on;
  }

  -- leaving an object: its end is sent
  pub end_leaves : (m : Client) (pg : BlockRecord) (h : ℕ) (hs : List ℕ) (l : Locals) → m.held h ≡ None → m.chunk h ≡ None → Leaving program t sent got m pg (h ∷ hs) l
      → Leaving program t (put sent h (sent h ++ parcels.End ∷ [])) got m pg hs l
  end_leaves m pg h hs l n c k = search (rules, eqb_self, put_all, lane_act, goes_end, num_cases)

  pub home_leaves : (m : Client) (pg : BlockRecord) (h : ℕ) (hs : List ℕ) (l : Locals) (x : HeldState) → m.held h ≡ Some x → Leaving program t sent got m pg (h ∷ hs) l
      → Leaving program t (put sent h (sent h ++ parcels.Home x ∷ [])) got (record m { held = put m.held h None }) pg (h ∷ hs) l
  home_leaves m pg h hs l x e k = search (rules, no_chunk, eqb_self, put_all, put_both, lane_act, goes_home)

  pub work_leaves : (settings : Settings) (m : Client) (pg : BlockRecord) (h : ℕ) (hs : List ℕ) (l : Locals) (rs : List Request) → m.chunk h ≡ Some rs → Leaving program t sent got m pg (h ∷ hs) l
      → Leaving program t (put sent h (sent h ++ work settings rs ∷ [])) got (record m { chunk = put m.chunk h None }) pg (h ∷ hs) l
  work_leaves settings m pg h hs l rs e k = search (rules, no_held, eqb_self, put_all, put_both, lane_act, goes_work)
