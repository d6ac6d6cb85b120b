-- `free` makes one block of the empty places, and hands it back with the right to do so. Assumes `Logic`.
use Rattle.std.proofs.Common.{◌≡◌, ℕ, ◌*◌, ◌^◌, ◌<◌, T, List, [], ◌∷◌, length, replicate, None, refl, sym, ap, ◌∙◌, subst, arith, w64}
use base.Logic.{SProp}
use base.Fml.{Fml, ftrue, fsep, froom, flft, Incl-trans}
use contract.BorrowLft.{◌⊑◌}
use contract.Monad.{fact}
use contract.Running.{tables}
use lib.ListN.{length-replicate}
use mir.MapTy.{inst_fn}
use mir.Syntax.{Ty, named, ty_unit, ty_array}
use mir.Val.{Val, vint, vptr, vunit, has_ty, WT}
use prog.Capped.{capped_fits}
use prog.Memory.{align, capped}
use prog.Wp.{WpFn}
use types.Kit.{‵, raw, ◌⊛◌, given, later, prop, at_ret, ◌$◌, ◌∵◌, !, qed, by, move, keep, drop, use1, learn, await, split, join, group, rewrite, regoal, fsplit, fsplit3, fjoin, fjoin3, feq_i}
use types.Part.{whole, sub}
use types.Run.{stop, fld, unit_lit, size_word, align_word, no_more, and_then, of_opd, bin, first, blocks, exec, returns, enter}
use types.ByLocal.{alloc_all, pass_all, free_all, look_at, get, get_in, is, sets, lands_last, env}
use denote.Builtin.{RefOf, usize}
use denote.Exit.{yes, no}
use denote.Param.Laws.{param_laws}
use denote.Plain.{uint_vals, uint_Tells}
use denote.RattleType.{owns}
use denote.RawPtr.{Ptr, block_ptr}
use denote.Ref.{shr_vals, shr_Tells}
use denote.Signature.{plain, types_at}
use denote.Steps.{nothing, heard}
use denote.Triple.Call.{calls_at_last}
use denote.Triple.Table.{framed}
use denote.Triple.Walked.{Stays, stay_dropped, walk_of, Goes-dropped}
use Rattle.core.proofs.alloc.Calls.{Al, token, Gives, at_gives, Gives-goes, Gives-Gives}
use Rattle.core.proofs.mem.Param.{El, R, elτ}
use Rattle.core.proofs.slots.Bodies.{after}
use Rattle.core.proofs.slots.Leases.{args, P, uncapped, block_ty, block_size, block_align}
use Rattle.core.proofs.slots.Places.{sz}
use Rattle.std.proofs.raw_atomic.Walks.{proved, leaves}
use Rattle.qs_chunk.specs.Room.{row_owns}
use Rattle.qs_chunk.proofs.Rooms.{Cell, Rm, Owner, room_val, room_had, to_block}
use Rattle.qs_chunk.proofs.cells.Room.TheLaws.{lowers}
use Rattle.qs_chunk.specs.contracts.cells.Room.free.{ended, clauses}
use Rattle.qs_chunk.specs.contracts.cells.Room.free.Key.{name as #self}
use Rattle.qs_chunk.proofs.cells.Room.free.Statement.{statement}
use Rattle.qs_chunk.proofs.cells.Room.free.Code as code

pub free_spec : {M : Type 1} → statement M
free_spec 𝓤 𝓛 𝓜 𝓡 wired X U LX LU g d dd met _ =
    let H = 𝓛.H in let 𝓣 = tables 𝓤 H 𝓜 𝓡 𝓡.env in
    let E : El = record { row = X; laws = LX } in let Z : Al = record { row = U; laws = LU; g = g; d = d; drops = dd } in
    let En = ended X U g d dd in let c = clauses X U g d dd 𝓛 𝓜.mem 𝓡.returns in let fn = inst_fn (args E Z) code.function in
    let heap = RefOf (0 ∷ []) tt (plain (λ _. P E Z)) (λ _. tt) in let holds = lowers (R E) (P E Z) g (param_laws 0 X LX) (param_laws 1 U LU) in
    let hs : Stays En.signature.params En.kept = (stay_dropped (plain (λ _. Rm E Z)) no, (stay_dropped heap yes, (stay_dropped (plain (λ _. usize)) yes, tt))) in
    proved 𝓛 En hs c 𝓜 𝓡 (Goes-dropped 𝓛 3 (plain (λ _. Rm E Z)) no (λ κs x f. refl), (Goes-dropped 𝓛 3 heap yes (λ κs x f. refl), (Goes-dropped 𝓛 3 (plain (λ _. usize)) yes (λ κs x f. refl), tt)))
    (#self (args E Z)) fn (code.unfolded 𝓤 H 𝓜 𝓡 wired (X, (U, tt)) d dd)
    (λ κs. ((λ x. room_val E Z x.ptr ∷ []), (shr_vals, (uint_vals w64, tt)))) (λ κs. (holds.val_is, (shr_Tells (named 0) κs.0 (P E Z), (uint_Tells w64, tt)))) (λ κs qs bounds a gh are.
    let κ = κs.0 in let q = qs.0 in let h : Owner E Z = a.0 in let p : Ptr = h.ptr in let hp : ℕ × ℕ = a.1.0.ref_ptr in let heap : U.Denot = a.1.0.now in let n : ℕ = a.1.1.0 in
    let s : ℕ = sz E in let al : ℕ = capped (align (elτ E)) in let τ : Ty = block_ty E n in
    let y : (walk_of 𝓛 En hs c).Ghost = ((κs, qs, bounds, a, (room_val E Z p ∷ [], (vptr hp.0 hp.1 ∷ [], (vint w64 n ∷ [], tt)))), gh) in let Post : Val → SProp 𝓤 = (walk_of 𝓛 En hs c).post y in
    let others : Fml = fsep (flft κs.1.0 qs.1.0) (fsep (flft κs.1.1.0 qs.1.1.0) ftrue) in
    let Empty : Type 0 = h.places ≡ replicate n None in let Given : Type 0 = h.giver ≡ heap in
    qed 𝓛 (((‵ (flft κ q) ⊛ ‵ others) ⊛ ‵ (owns (types_at En.signature.params κs) a y.0.4)) ∷ (raw (fact 𝓤 _) ⊛ raw (fact 𝓤 (κs.1.1.0 ⊑ U.lives)) ⊛ raw (fact 𝓤 Empty) ⊛ raw (fact 𝓤 Given)) ∷ []) ∵
    move ! (1 ∷ []) $ split ! $ drop ! $ split ! $ heard ! (κs.1.1.0 ⊑ U.lives) (λ within. split ! $ heard ! Empty (λ empty. heard ! Given (λ given_by.
    split ! $ split ! $ move ! (2 ∷ []) $ fsplit3 ! $ room_had E Z ! h (room_val E Z p ∷ []) (λ b o lies _ fit.
    let long : length h.places ≡ n = ap length empty ∙ length-replicate n None in
    let small : n * s < 2 ^ 63 = subst (λ (k : ℕ). k * s < 2 ^ 63) long fit in let bytes : n * s < 2 ^ 64 = omega arith in
    rewrite ! 0 (λ (l : List (Cell E 𝓛 b)). ‵ (row_owns (R E) b o l)) empty refl $ use1 𝓛 (‵ (froom (ty_array (elτ E) n) b o)) (to_block E 𝓛 b n o) $ use1 𝓛 (‵ (froom τ b o)) (𝓛.laws.room-raw (ty_array (elτ E) n) b o) $
    rewrite ! 1 (λ (r : ℕ × U.Denot). ‵ (token Z r.1 (block_ty E r.0) (block_ptr b o))) {x = (n, heap)} {y = (length h.places, h.giver)} (λ i. (long i, given_by i)) refl $
    move ! (3 ∷ []) $ fsplit ! $ keep ! (2 ∷ 3 ∷ 1 ∷ 6 ∷ 7 ∷ []) $
    -- [the block's room; the right to free it; the handle; its token; the other tokens]
    regoal ! (λ (r : Ptr). prop (WpFn 𝓤 H 𝓣.C 𝓣.Λ fn (room_val E Z r ∷ vptr hp.0 hp.1 ∷ vint w64 n ∷ []) Post)) lies refl $
    enter ! 𝓣.C 𝓣.Λ fn (room_val E Z (block_ptr b o) ∷ vptr hp.0 hp.1 ∷ vint w64 n ∷ []) Post $
    alloc_all ! (λ l. pass_all ! refl ((tt, (tt, (tt, tt))), ((tt, tt), ((tt, record { fits = are.1.1.0.1 }), tt))) $ let Ev = env fn.locals l in
    let t : (Gives Z 𝓛 𝓜.mem 𝓡.returns).Ghost = at_gives Z 𝓛 𝓜.mem 𝓡.returns κ q hp heap b o (n * s) al τ in
    sets ! (of_opd ! (get_in ! (fld ! refl (stop !)) (sub ! 0 refl (whole !)))) refl (tt, tt) $ first ! $ blocks ! $ sets ! (of_opd ! (get ! refl)) refl (tt, tt) $
    sets ! (is ! (bin ! (get ! refl) (size_word !) (record { fits = subst (λ (k : ℕ). k < 2 ^ 64) (sym (uncapped n s bytes)) bytes })) (ap (vint w64) (uncapped n s bytes))) refl (tt, record { fits = bytes }) $
    group ! 4 $ use1 𝓛 (raw ((Gives Z 𝓛 𝓜.mem 𝓡.returns).pre t)) (Gives-goes Z 𝓛 𝓜.mem 𝓡.returns κ q hp heap (Incl-trans bounds.0 within) b o (n * s) al τ (block_size E n bytes) (block_align E n) bytes (capped_fits (align (elτ E)))) $
    calls_at_last ! (framed 𝓤 H 𝓜 𝓣) (Gives Z 𝓛 𝓜.mem 𝓡.returns) (met.deallocate dd) t (and_then ! (get ! refl) (and_then ! (get ! refl) (and_then ! (get ! refl) (and_then ! (align_word !) (no_more !))))) (λ v.
    use1 𝓛 (later (given (v ≡ vunit) (‵ (flft κ q)))) (Gives-Gives Z 𝓛 𝓜.mem 𝓡.returns κ q hp heap b o (n * s) al τ v) $ await ! tt $ learn ! (λ over.
    lands_last ! refl (subst (λ (u : Val). T (has_ty ty_unit u) × WT u) (sym over) (tt, tt)) $ exec ! 𝓣.C 𝓣.Λ Ev (after 2 fn.body) (at_ret Ev Post) $
    sets ! (of_opd ! (unit_lit !)) refl (tt, tt) $ returns ! (look_at ! 0 refl) $ free_all ! refl $
    -- [the token; the other tokens]
    join ! $ nothing ! $ feq_i ! (List Val) (vunit ∷ []) (vunit ∷ []) refl $ nothing ! $ nothing ! $ fjoin ! $ nothing ! $ nothing ! $ fjoin3 ! $ keep ! (3 ∷ 0 ∷ 1 ∷ 2 ∷ []) $
    by ! (leaves 𝓛 En hs c y vunit tt (tt, (tt, (tt, tt))) (tt, (tt, (tt, tt))))))))))))
