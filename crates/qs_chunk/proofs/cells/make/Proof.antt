-- `make` lays empty places out in the block that the allocator gives, and keeps the right to give it back. Assumes
-- `Logic`.
use Rattle.std.proofs.Common.{ℕ, ◌*◌, ◌^◌, ◌<◌, [], ◌∷◌, replicate, None, Ok, Err, refl, sym, ap, subst, arith, w64, lit<, true, false}
use base.Logic.{SProp, emp}
use base.Fml.{Fml, ftrue, fsep, froom, flft, Incl-trans}
use contract.BorrowLft.{◌⊑◌}
use contract.Monad.{fact, fact_i}
use contract.Running.{tables}
use lib.ListN.{length-replicate}
use mir.MapTy.{inst_fn}
use mir.Syntax.{Ty, Body, named, ty_array}
use mir.Val.{Val, vint, vptr, vstruct, vcons, vnil, WT}
use prog.Capped.{capped_fits}
use prog.Memory.{align, capped}
use prog.Wp.{Wp, after_seq, at_return}
use types.Kit.{Post as After, any_q, ‵, raw, ◌⊛◌, later, at_ret, ◌$◌, ◌∵◌, !, qed, by, move, keep, drop, use0, use1, use2, await, split, join, rewrite, fsplit, fjoin3}
use types.Match.{live, vrt, in_variant}
use types.Part.{whole, agg}
use types.Run.{stop, fld, lit, size_word, align_word, no_more, and_then, of_opd, bin, first, switches_on, exec, returns, enter}
use types.ByLocal.{alloc_all, pass_all, free_all, look_at, get, get_in, get_tag, is, sets, sets_last, lands_as, env}
use denote.Builtin.{RefOf, usize}
use denote.Exit.{yes}
use denote.Laws.{Is}
use denote.Plain.{uint_vals, uint_Tells}
use denote.RattleType.{RattleType, owns}
use denote.RawPtr.{block_ptr}
use denote.Ref.{shr_vals, shr_Tells}
use denote.Shadow.{pure_i}
use denote.Signature.{plain, types_at}
use denote.Steps.{nothing, heard, owned}
use denote.Struct.Declared as Declared
use denote.Struct.Struct.{Struct, Struct-Makes}
use denote.Triple.Call.{calls_at}
use denote.Triple.Table.{framed}
use denote.Triple.Walked.{Stays, stay_dropped, walk_of, Goes-dropped}
use Rattle.core.specs.contracts.alloc.AllocError as AE
use Rattle.core.specs.contracts.result.Result as RS
use Rattle.core.proofs.alloc.Calls.{Al, token, Takes, at_takes, Answer-typed, Answered, Takes-goes, Takes-gives, answers}
use Rattle.core.proofs.mem.Param.{El, R, elτ}
use Rattle.core.proofs.slots.Bodies.{after, head, arm_body}
use Rattle.core.proofs.slots.Leases.{args, P, uncapped, block_ty, block_size, block_align}
use Rattle.core.proofs.slots.Places.{sz}
use Rattle.std.specs.Vec.Ownership.{FitsInBlock}
use Rattle.std.proofs.raw_atomic.Walks.{proved, leaves}
use Rattle.std_alloc.proofs.ResultValues.{ok_of, err_of}
use Rattle.qs_chunk.specs.Room.{row_owns}
use Rattle.qs_chunk.proofs.Rooms.{Rm, Owner, Fields, room_val, room_made, of_block}
use Rattle.qs_chunk.specs.contracts.cells.make.{ended, clauses}
use Rattle.qs_chunk.specs.contracts.cells.make.Key.{name as #self}
use Rattle.qs_chunk.proofs.cells.make.Statement.{statement}
use Rattle.qs_chunk.proofs.cells.make.Code as code

pub make_spec : {M : Type 1} → statement M
make_spec 𝓤 𝓛 𝓜 𝓡 wired X U LX LU g d dd met _ =
    let H = 𝓛.H in let 𝓣 = tables 𝓤 H 𝓜 𝓡 𝓡.env in
    let E : El = record { row = X; laws = LX } in let Z : Al = record { row = U; laws = LU; g = g; d = d; drops = dd } in
    let En = ended X U g d dd in let c = clauses X U g d dd 𝓛 𝓜.mem 𝓡.returns in let fn = inst_fn (args E Z) code.function in
    let heap = RefOf (0 ∷ []) tt (plain (λ _. P E Z)) (λ _. tt) in let Out : RattleType = RS.the_row (Rm E Z) AE.the_row in
    let hs : Stays En.signature.params En.kept = (stay_dropped heap yes, (stay_dropped (plain (λ _. usize)) yes, tt)) in
    proved 𝓛 En hs c 𝓜 𝓡 (Goes-dropped 𝓛 3 heap yes (λ κs x f. refl), (Goes-dropped 𝓛 3 (plain (λ _. usize)) yes (λ κs x f. refl), tt))
    (#self (args E Z)) fn (code.unfolded 𝓤 H 𝓜 𝓡 wired (X, (U, tt)) d dd)
    (λ κs. (shr_vals, (uint_vals w64, tt))) (λ κs. (shr_Tells (named 0) κs.0 (P E Z), (uint_Tells w64, tt))) (λ κs qs bounds a gh are.
    let κ = κs.0 in let q = qs.0 in let hp : ℕ × ℕ = a.0.ref_ptr in let heap : U.Denot = a.0.now in let n : ℕ = a.1.0 in
    let s : ℕ = sz E in let al : ℕ = capped (align (elτ E)) in let τ : Ty = block_ty E n in
    let y : (walk_of 𝓛 En hs c).Ghost = ((κs, qs, bounds, a, (vptr hp.0 hp.1 ∷ [], (vint w64 n ∷ [], tt))), gh) in let Post : Val → SProp 𝓤 = (walk_of 𝓛 En hs c).post y in
    let others : Fml = fsep (flft κs.1.0 qs.1.0) (fsep (flft κs.1.1.0 qs.1.1.0) ftrue) in
    qed 𝓛 (((‵ (flft κ q) ⊛ ‵ others) ⊛ ‵ (owns (types_at En.signature.params κs) a y.0.4)) ∷ (raw (fact 𝓤 _) ⊛ raw (fact 𝓤 (κs.1.1.0 ⊑ U.lives)) ⊛ raw (fact 𝓤 (FitsInBlock (R E) n))) ∷ []) ∵
    move ! (1 ∷ []) $ split ! $ drop ! $ split ! $ heard ! (κs.1.1.0 ⊑ U.lives) (λ within. heard ! (FitsInBlock (R E) n) (λ asked.
    let small : n * s < 2 ^ 63 = asked.0 in let bytes : n * s < 2 ^ 64 = omega arith in
    split ! $ split ! $ move ! (2 ∷ []) $ fsplit ! $ fsplit ! $ keep ! (1 ∷ 3 ∷ 4 ∷ []) $
    -- [the handle; its token; the other tokens]
    enter ! 𝓣.C 𝓣.Λ fn (vptr hp.0 hp.1 ∷ vint w64 n ∷ []) Post $ alloc_all ! (λ l. pass_all ! refl ((tt, tt), ((tt, record { fits = are.1.0.1 }), tt)) $ let Ev = env fn.locals l in
    let both : Body = head (after 2 fn.body) in let Then : After 𝓤 H = any_q (after_seq 𝓤 H (Wp 𝓤 H 𝓣.C 𝓣.Λ Ev (after 3 fn.body) (at_return 𝓤 H Ev Post)) (at_return 𝓤 H Ev Post)) in
    let t : (Takes Z 𝓛 𝓜.mem 𝓡.returns).Ghost = at_takes Z 𝓛 𝓜.mem 𝓡.returns κ q hp heap (n * s) al τ in
    sets ! (is ! (bin ! (get ! refl) (size_word !) (record { fits = subst (λ (k : ℕ). k < 2 ^ 64) (sym (uncapped n s bytes)) bytes })) (ap (vint w64) (uncapped n s bytes))) refl (tt, record { fits = bytes }) $
    use2 𝓛 (raw ((Takes Z 𝓛 𝓜.mem 𝓡.returns).pre t)) (Takes-goes Z 𝓛 𝓜.mem 𝓡.returns κ q hp heap (Incl-trans bounds.0 within) (n * s) al τ (block_size E n bytes) (block_align E n) bytes (capped_fits (align (elτ E)))) $
    calls_at ! (framed 𝓤 H 𝓜 𝓣) (Takes Z 𝓛 𝓜.mem 𝓡.returns) (met.allocate dd) t (and_then ! (get ! refl) (and_then ! (get ! refl) (and_then ! (align_word !) (no_more !)))) (λ v.
    use1 𝓛 (later (raw (Answered Z 𝓛 𝓜.mem 𝓡.returns heap τ v) ⊛ ‵ (flft κ q))) (Takes-gives Z 𝓛 𝓜.mem 𝓡.returns κ q hp heap (n * s) al τ v) $ await ! tt $ split ! $
    answers Z ! 𝓜.mem 𝓡.returns heap τ v
    (λ b o e.
    let new : Owner E Z = record { ptr = block_ptr b o; by = record {}; places = replicate n None; giver = heap } in let made : Val = room_val E Z (block_ptr b o) in
    let good : WT made = (tt, (tt, tt)) in let all : WT (live 0 (vcons made vnil)) = (record { fits = lit< tt }, (good, tt)) in
    lands_as ! e refl (Answer-typed true b o) $ first ! $ switches_on ! (get_tag ! (vrt ! refl (fld ! refl (stop !))) (whole !)) $ exec ! 𝓣.C 𝓣.Λ Ev (arm_body 0 both) Then $
    sets ! (of_opd ! (get_in ! (vrt ! refl (fld ! refl (stop !))) (in_variant ! 0 0 refl refl (whole !)))) refl (tt, tt) $ sets ! (of_opd ! (get ! refl)) refl (tt, tt) $
    sets ! (agg ! (no_more !)) refl (tt, tt) $ sets ! (agg ! (and_then ! (get ! refl) (and_then ! (get ! refl) (no_more !)))) refl (tt, good) $
    sets_last ! (agg ! (and_then ! (lit ! tt) (and_then ! (get ! refl) (no_more !)))) refl (tt, all) $ exec ! 𝓣.C 𝓣.Λ Ev (after 3 fn.body) (at_ret Ev Post) $ sets ! (of_opd ! (get ! refl)) refl (tt, all) $
    -- [the block's room; the right to free it; the token; the other tokens]
    use1 𝓛 (‵ (froom (ty_array (elτ E) n) b o)) (𝓛.laws.raw-room (ty_array (elτ E) n) b o) $ use1 𝓛 (‵ (row_owns (R E) b o new.places)) (of_block E 𝓛 b n o) $
    rewrite ! 1 (λ (k : ℕ). ‵ (token Z heap (block_ty E k) (block_ptr b o))) (sym (length-replicate n None)) refl $
    pure_i ! ((Fields E Z).own_val (block_ptr b o, (tt, tt)) (made ∷ [])) (λ vss. (tt, (tt, ((λ uss. (tt, tt)), tt)))) ((vptr b o ∷ [], (vstruct vnil ∷ [], tt)), (refl, (refl, ((tt, (refl, tt)), tt)))) $ move ! (1 ∷ 2 ∷ 0 ∷ []) $
    room_made E Z ! new b o refl (subst (λ (k : ℕ). k * s < 2 ^ 63) (sym (length-replicate n None)) small) $
    use1 𝓛 (‵ (Out.own_val (Ok new) (live 0 (vcons made vnil) ∷ []))) (ok_of 𝓛 (Rm E Z) AE.the_row new made) $
    returns ! (look_at ! 0 refl) $ free_all ! refl $ move ! (1 ∷ 2 ∷ []) $ join ! $ nothing ! $ nothing ! $ nothing ! $ fjoin3 ! $
    use0 𝓛 (raw (fact 𝓤 _)) (fact_i 𝓤 _ (emp 𝓤) refl) $ use0 𝓛 (raw (fact 𝓤 _)) (fact_i 𝓤 _ (emp 𝓤) refl) $ keep ! (3 ∷ 2 ∷ 4 ∷ 1 ∷ 0 ∷ []) $ by ! (leaves 𝓛 En hs c y (live 0 (vcons made vnil)) (Ok new) (tt, (tt, tt)) (tt, (tt, tt))))
    (λ e.
    let Refusal : RattleType = Struct (Declared.shape AE.the_type) in let none : Val = live 1 (vcons (vstruct vnil) vnil) in let all : WT none = (record { fits = lit< tt }, (tt, tt)) in
    lands_as ! e refl (Answer-typed false 0 0) $ first ! $ switches_on ! (get_tag ! (vrt ! refl (fld ! refl (stop !))) (whole !)) $ exec ! 𝓣.C 𝓣.Λ Ev (arm_body 1 both) Then $
    sets ! (of_opd ! (get_in ! (vrt ! refl (fld ! refl (stop !))) (in_variant ! 1 0 refl refl (whole !)))) refl (tt, tt) $
    sets_last ! (agg ! (and_then ! (lit ! tt) (and_then ! (get ! refl) (no_more !)))) refl (tt, all) $ exec ! 𝓣.C 𝓣.Λ Ev (after 3 fn.body) (at_ret Ev Post) $ sets ! (of_opd ! (get ! refl)) refl (tt, all) $
    owned ! Refusal (Is Refusal) (Struct-Makes 𝓛 (Declared.shape AE.the_type) tt) tt (vstruct vnil ∷ []) (tt, (refl, tt)) $
    use1 𝓛 (‵ (Out.own_val (Err (record {})) (none ∷ []))) (err_of 𝓛 (Rm E Z) AE.the_row (record {}) (vstruct vnil)) $
    returns ! (look_at ! 0 refl) $ free_all ! refl $ move ! (1 ∷ 2 ∷ []) $ join ! $ nothing ! $ nothing ! $ nothing ! $ fjoin3 ! $
    use0 𝓛 (raw (fact 𝓤 _)) (fact_i 𝓤 _ (emp 𝓤) tt) $ use0 𝓛 (raw (fact 𝓤 _)) (fact_i 𝓤 _ (emp 𝓤) tt) $ keep ! (3 ∷ 2 ∷ 4 ∷ 1 ∷ 0 ∷ []) $ by ! (leaves 𝓛 En hs c y none (Err (record {})) (tt, (tt, tt)) (tt, (tt, tt)))))))))
