-- Frames survive their words, and readable words their frames.
use Rattle.std.proofs.Common.{◌≡◌, ℕ, ◌+◌, ◌*◌, ◌/◌, ◌%◌, ◌^◌, ◌<◌, ◌≤◌, Bool, true, ◌&&◌, T, ltb, Some, None, Option, refl, ap, arith}
use Rattle.std.proofs.lemmas.Bool.{lt-ltb, ltb-true, and_parts}
use Rattle.stations.specs.declared.TheConstants.{STATIONS}
use Rattle.frames.specs.declared.TheConstants.{ROUNDS}
use Rattle.rules.specs.declared.TheConstants.{LAST_ROUND}
use Rattle.rules.specs.Rule.{Behaviour, Laws}
use Rattle.lists.proofs.Options.{none_some, same_some, only}
use Rattle.frames.specs.Frame.{Frame, frame_word, packed_frame, read_frame, framed, ReadsBack, PacksAgain}

framed_from : {L : Type 0} (s r k : ℕ) (o : Option L) (f : Frame L) → framed s r k o ≡ Some f → (l : L) × (o ≡ Some l) × (f ≡ (s, r, k, l))
framed_from s r k None f e = none_some e
framed_from s r k (Some l) f e = (l, refl, cc)

-- the parts of what was read
read_from : {S L : Type 0} (R : Behaviour S L) (n w : ℕ) (f : Frame L) → read_frame R n w ≡ Some f →
    (l : L) × (R.unpack (w % 2 ^ 44) ≡ Some l) × (w / 2 ^ 60 < n) × ((w / 2 ^ 56) % STATIONS < n)
    × (f ≡ (w / 2 ^ 60, (w / 2 ^ 56) % STATIONS, (w / 2 ^ 44) % ROUNDS, l))
unfolding read_frame
read_from R n w f e =
    let x : ℕ = w / 2 ^ 60 in
    let y : ℕ = (w / 2 ^ 56) % STATIONS in
    let there = only (ltb x n && ltb y n) (framed x y ((w / 2 ^ 44) % ROUNDS) (R.unpack (w % 2 ^ 44))) f e in
    let below = and_parts (ltb x n) (ltb y n) there.0 in
    let parts = framed_from x y ((w / 2 ^ 44) % ROUNDS) (R.unpack (w % 2 ^ 44)) f there.1 in
    (parts.0, parts.1, ltb-true x n below.0, ltb-true y n below.1, parts.2)

-- a frame that was read has both its stations
pub read_below : {S L : Type 0} (R : Behaviour S L) (n w : ℕ) (f : Frame L) → read_frame R n w ≡ Some f → (f.0 < n) × (f.1 < n)
read_below R n w f e =
    let p = read_from R n w f e in
    (omega (arith, ap (λ x. x.0) p.4, p.2), omega (arith, ap (λ x. x.1) p.4, p.3))

module _ {S L : Type 0} (R : Behaviour S L) {letter_fits : L → Bool} (laws : Laws R letter_fits) where
  pub reads_back :
      (n s r k : ℕ) (l : L) → r < STATIONS → s < n → r < n → k ≤ LAST_ROUND → T (letter_fits l) →
      read_frame R n (frame_word R (s, r, k, l)) ≡ Some (s, r, k, l)
  unfolding frame_word read_frame
  reads_back n s r k l few hs hr hk fits =
      let small = laws.codec.small l fits in
      let back = laws.codec.back l fits in
      let w : ℕ = ((s * STATIONS + r) * ROUNDS + k) * 2 ^ 44 + R.pack l in
      let e0 : w / 2 ^ 60 ≡ s = omega arith in
      let e1 : (w / 2 ^ 56) % STATIONS ≡ r = omega arith in
      let e2 : (w / 2 ^ 44) % ROUNDS ≡ k = omega arith in
      let e3 : w % 2 ^ 44 ≡ R.pack l = omega arith in
      rw (e0, e1, e2, e3, back, lt-ltb s n hs, lt-ltb r n hr)

  pub packed_reads_back : (f : Frame L) (word : Option ℕ) → word ≡ packed_frame R f → ReadsBack R letter_fits f word
  packed_reads_back f word is n w e hs hr fits =
      let there = only (ltb f.0 STATIONS && ltb f.1 STATIONS && ltb f.2 ROUNDS) (Some (frame_word R f)) w (cc) in
      let same : frame_word R f ≡ w = same_some there.1 in
      let tests = and_parts (ltb f.0 STATIONS && ltb f.1 STATIONS) (ltb f.2 ROUNDS) there.0 in
      let stations = and_parts (ltb f.0 STATIONS) (ltb f.1 STATIONS) tests.0 in
      rw (← same) (reads_back n f.0 f.1 f.2 f.3 (omega (arith, ltb-true f.1 STATIONS stations.1)) hs hr (omega (arith, ltb-true f.2 ROUNDS tests.1)) fits)

  -- the four parts of a word make it up again
  whole : (w : ℕ) → ((w / 2 ^ 60 * STATIONS + (w / 2 ^ 56) % STATIONS) * ROUNDS + (w / 2 ^ 44) % ROUNDS) * 2 ^ 44 + w % 2 ^ 44 ≡ w
  whole w = omega arith

  pub read_packs_again : (n w : ℕ) (read : Option (Frame L)) → w < 2 ^ 64 → read ≡ read_frame R n w → PacksAgain R n w read
  unfolding frame_word
  read_packs_again n w read small is f e =
      let p = read_from R n w f (cc) in
      let below = read_below R n w f (cc) in
      let again = laws.codec.again (w % 2 ^ 44) p.0 p.1 in
      let t0 : ltb (w / 2 ^ 60) STATIONS ≡ true = lt-ltb (w / 2 ^ 60) STATIONS (omega arith) in
      let t1 : ltb ((w / 2 ^ 56) % STATIONS) STATIONS ≡ true = lt-ltb ((w / 2 ^ 56) % STATIONS) STATIONS (omega arith) in
      let t2 : ltb ((w / 2 ^ 44) % ROUNDS) ROUNDS ≡ true = lt-ltb ((w / 2 ^ 44) % ROUNDS) ROUNDS (omega arith) in
      (below.0, below.1, rw (p.4, t0, t1, t2, again) (ap Some (whole w)))
