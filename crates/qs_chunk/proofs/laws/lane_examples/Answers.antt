use Rattle.std.proofs.Common.{◌≡◌, ℕ, zero, suc, Bool, true, false, List, [], ◌∷◌, ◌++◌, map, flat_map, replicate, refl, ap, ◌∙◌, append_assoc}
use Rattle.qs_chunk.specs.audit.Lanes.{Sending, round_parcels, block_parcels}
use Rattle.qs_chunk.specs.Lanes.{StandsFrom}
use Rattle.qs_chunk.specs.declared.parcel.Parcel.{Parcel}
use Rattle.qs_chunk.specs.declared.parcel.Parcel.TheVariants.{Work, End}
use Rattle.qs_chunk.proofs.laws.lane_examples.Goals as goal

ends : (n : ℕ) → StandsFrom 8 false (replicate n End)
ends zero = tt
ends (suc n) = ((refl, tt), ends n)

abbrev is_end : Parcel → Bool
is_end End = true
is_end _ = false

-- whether the last parcel is an End, which `ended` says of what came before
abbrev ends_so : Bool → List Parcel → Bool
ends_so ended [] = ended
ends_so ended (p ∷ ps) = ends_so (is_end p) ps

ends_so-append : (ended : Bool) (ps : List Parcel) (p : Parcel) (qs : List Parcel) → ends_so ended (ps ++ p ∷ qs) ≡ ends_so (is_end p) qs
ends_so-append ended [] p qs = refl
ends_so-append ended (q ∷ ps) p qs = ends_so-append (is_end q) ps p qs

-- what has the form ends with an End
whole : (blocks : List Sending) → ends_so true (flat_map block_parcels blocks) ≡ true
whole [] = refl
whole (s ∷ ss) =
    let front = map Work s.chunks ++ flat_map round_parcels s.rounds in let others = flat_map block_parcels ss in
    ap (ends_so true) (append_assoc front (End ∷ []) others) ∙ (ends_so-append true front End others ∙ whole ss)

pub returns : goal.returns
returns c = record {
  examples = record {
    one_block = refl;
    more_blocks = refl;
    a_block = ((refl, refl), ((refl, tt), ((refl, tt), ((refl, tt), tt))));
    blocks = ((refl, tt), ((refl, tt), ((refl, refl), ((refl, tt), ((refl, tt), ((refl, refl), ((refl, refl), ((refl, tt), ((refl, tt), tt)))))))));
    sixteen_ends = ends 16;
    other_size = λ stands. absurd (cc stands.0.1);
    home_first = λ stands. absurd (cc stands.0.0);
    work_after_sync = λ stands. absurd (cc stands.1.0.0);
    end_while_away = λ stands. absurd (cc stands.1.0.0);
    unfinished = λ form. cc (ap (λ ps. ends_so true ps) form.1, whole form.0);
    asks_first = refl;
    ends_first = refl;
    comes_home = refl;
    sync_twice = refl;
    home_twice = refl;
    works_again = refl;
    next_block = refl;
  };
}
