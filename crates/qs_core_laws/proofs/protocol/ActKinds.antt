-- What a client has in hand of an object decides which kinds of act it can be due: on its way to a command or a
-- synchronisation it sends only to that object, and never awaits an object or reserves. The lemmas on acts by the
-- client's place (`ActObjects`, `ClientLogs`) rule out with these the acts that can't be. The proofs go by cases on the
-- object and the chunk in hand.
use Rattle.std.proofs.Common.{◌≡◌, ◌≢◌, ℕ, Bool, true, false, if◌then◌else◌, List, Option, Some, None, rules, arith}
use Rattle.qs_played.proofs.Names.{HeldState, Request}
use Rattle.qs_core_laws.proofs.Names.{gone, Parcel, Settings, clear, call_act, Act, Reserve, Send, Await, NeedChunk, Finished}
use Rattle.qs_core_laws.proofs.protocol.ClientInvariants.{in_hand}

pub in_hand_gone : (o : Option HeldState) (c : Option (List Request)) → in_hand o c ≡ gone → ⊥
in_hand_gone v w e = search rules

-- between two blocks a client reserves or has ended
abbrev pub outside : Bool → Act
outside b = if b then Reserve else Finished

pub outside_not_send : (b : Bool) (h : ℕ) (parcel : Parcel) → outside b ≡ Send h parcel → ⊥
outside_not_send v h parcel e = search rules

pub outside_not_await : (b : Bool) (h : ℕ) → outside b ≡ Await h → ⊥
outside_not_await v h e = search rules

pub outside_not_need : (b : Bool) (h : ℕ) → outside b ≡ NeedChunk h → ⊥
outside_not_need v h e = search rules

module _ (settings : Settings) where
  pub call_object : (g : ℕ) (hd : Option HeldState) (ck : Option (List Request)) (h : ℕ) (parcel : Parcel) → call_act settings g hd ck ≡ Send h parcel → g ≡ h
  call_object g v w h parcel e = search rules

  pub clears_object : (g : ℕ) (hd : Option HeldState) (ck : Option (List Request)) (q : Parcel) (h : ℕ) (parcel : Parcel)
      → clear settings g hd ck (Send g q) ≡ Send h parcel → g ≡ h
  clears_object g v w q h parcel e = search rules

  pub full_object : (g : ℕ) (ck : Option (List Request)) (h : ℕ) (parcel : Parcel) → clear settings g None ck Finished ≡ Send h parcel → (g ≡ h) × (ck ≢ None)
  full_object g v h parcel e = search rules

  pub need_object : (g : ℕ) (hd : Option HeldState) (ck : Option (List Request)) (h : ℕ) → call_act settings g hd ck ≡ NeedChunk h → g ≡ h
  need_object g v w h e = search rules

  pub call_not_await : (g : ℕ) (hd : Option HeldState) (ck : Option (List Request)) (h : ℕ) → call_act settings g hd ck ≡ Await h → ⊥
  call_not_await g v w h e = search rules

  pub clears_not_await : (g : ℕ) (hd : Option HeldState) (ck : Option (List Request)) (parcel : Parcel) (h : ℕ) → clear settings g hd ck (Send g parcel) ≡ Await h → ⊥
  clears_not_await g v w parcel h e = search rules

  pub full_not_await : (g : ℕ) (ck : Option (List Request)) (h : ℕ) → clear settings g None ck Finished ≡ Await h → ⊥
  full_not_await g v h e = search rules

  pub clears_not_need : (g : ℕ) (hd : Option HeldState) (ck : Option (List Request)) (parcel : Parcel) (h : ℕ) → clear settings g hd ck (Send g parcel) ≡ NeedChunk h → ⊥
  clears_not_need g v w parcel h e = search rules

  pub full_not_need : (g : ℕ) (ck : Option (List Request)) (h : ℕ) → clear settings g None ck Finished ≡ NeedChunk h → ⊥
  full_not_need g v h e = search rules

  pub call_not_reserve : (g : ℕ) (hd : Option HeldState) (ck : Option (List Request)) → call_act settings g hd ck ≡ Reserve → ⊥
  call_not_reserve g v w e = search rules

  pub clears_not_reserve : (g : ℕ) (hd : Option HeldState) (ck : Option (List Request)) (parcel : Parcel) → clear settings g hd ck (Send g parcel) ≡ Reserve → ⊥
  clears_not_reserve g v w parcel e = search rules

  pub full_not_reserve : (g : ℕ) (ck : Option (List Request)) → clear settings g None ck Finished ≡ Reserve → ⊥
  full_not_reserve g v e = search rules
