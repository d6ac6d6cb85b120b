-- With one more worker that ended as the rest of its group did: all have worked, or all are as they were.
use Rattle.std.proofs.Common.{◌≡◌, ◌+◌, ℕ, Bool, true≢false, List, [], ◌∷◌, ◌++◌, Result, vec_len, vec_capacity, arith, rules}
use Rattle.qs_run.proofs.Names.{AllZip, HasFollowed, IfErr, IfOk, IsErr, IsWith, inside_of}
use Rattle.qs_run.specs.declared.start.group.Group.{Group}

module _ {V W : Type 0} (HasWorked : V → W → Type 0) where
  pushed : (ready : List V) (workers : List W) (before : V) (after : W) → AllZip HasWorked ready workers → HasWorked before after
      → AllZip HasWorked (ready ++ before ∷ []) (workers ++ after ∷ [])
  pushed [] [] before after all worked = (worked, tt)
  pushed (v ∷ vs) (w ∷ ws) before after all worked = (all.0, pushed vs ws before after all.1 worked)
  pushed _ _ before after all worked = absurd all

module _ {S V W A B T : Type 0} (HasWorked : V → W → Type 0) where
  -- all of the group have worked
  abbrev pub HaveWorked : List V → ℕ → ℕ → Result (Group S W A T) (Group S V B T) → Type 0
  HaveWorked ready many room group = IfOk group (λ r. AllZip HasWorked ready r.workers.items × (vec_len r.workers ≡ many) × (vec_capacity r.workers ≡ room))

  -- all of the group are as they were
  abbrev pub AreKept : List V → ℕ → Result (Group S W A T) (Group S V B T) → Type 0
  AreKept ready room group = IfErr group (λ r. (r.workers.items ≡ ready) × (vec_capacity r.workers ≡ room))

  pub one_more : (ready : List V) (worker : V) (go : Bool) (many room kept : ℕ) (rest : Result (Group S W A T) (Group S V B T)) (mine : Result W V)
      (group : Result (Group S W A T) (Group S V B T)) → IsWith rest mine group → HasFollowed HasWorked go worker mine
      → HaveWorked ready many room rest → AreKept ready kept rest
      → HaveWorked (ready ++ worker ∷ []) (many + 1) room group × AreKept (ready ++ worker ∷ []) kept group × (inside_of group ≡ inside_of rest)
  one_more ready worker go many room kept v w u more followed worked held = grind (arith, pushed)

module _ {S V W A B T : Type 0} where
  -- where the start of a worker was refused, none has run
  pub none_ran : (P : Group S W A T → Type 0) (rest : Result (Group S W A T) (Group S V B T)) → IsErr (inside_of rest) → IfOk rest P
  none_ran P v held = search (rules, true≢false)
