-- The lengths of what is written: a text with its filling, the tags, the data and the whole; and the whole, cut in
-- front of the data and behind it.
-- By induction on the tags; the rest is counting.
use Prim.Native.Nat.{ℕ, zero, suc, ◌+◌, ◌≤◌}
use mathlib.Core.Path.{◌≡◌, refl, sym, ap, ◌∙◌}
use mathlib.Core.List.{List, [], ◌∷◌, ◌++◌, append_assoc}
use native.Mathlib.Omega.{arith}
use lib.ListN.{length, replicate, length-append}
use Rattle.littleendian.specs.LittleEndian.{low_first}
use Rattle.event.specs.Event.{Text, Tag, Event, Valid}
use Rattle.pointer.specs.Written.{filling, padded_text, tag_piece, tag_size, tag_pieces, tag_pointers, pieces_offset, pointer_data, pointer_form}
use Rattle.pointer.proofs.Filled.{length_filling, length_tags, length_piece}
use Rattle.pointer.proofs.Words.{length_word}
use Rattle.pointwrite.specs.inner.Pieces.{tags_size, data_length, form_front}

-- ---- a text and its filling

pub filling_most : (n : ℕ) → length (filling n) ≤ 7
filling_most n = omega (arith, length_filling n)

pub length_padded : (t : Text) → length (padded_text t) ≡ length t + length (filling (length t))
unfolding padded_text
length_padded t = length-append t (filling (length t))

-- the lowest bytes of 0 are zeros
zeros : (k : ℕ) → low_first k 0 ≡ replicate k 0
unfolding low_first
zeros zero = refl
zeros (suc k) = ap (λ (l : List ℕ). 0 ∷ l) (zeros k)

pub filling_zeros : (n : ℕ) {k : ℕ} → k ≡ length (filling n) → filling n ≡ low_first k 0
unfolding filling
filling_zeros n {k} e = sym (zeros k ∙ ap (λ (j : ℕ). replicate j 0) (e ∙ length_filling n))

-- ---- the whole

pieces_length : (o : ℕ) (ts : List Tag) → length (tag_pieces o ts) ≡ tags_size ts
pieces_length o [] = refl
pieces_length o (t ∷ ts) =
    length-append (tag_piece o t) (tag_pieces (o + tag_size t) ts) ∙ rw (length_piece o t, pieces_length (o + tag_size t) ts)

module _ (e : Event) where
  pub data_length_lem : length (pointer_data e) ≡ data_length e
  unfolding pointer_data data_length
  data_length_lem =
      let o = pieces_offset e in
      let table = tag_pointers o e.tags in
      let pieces = tag_pieces o e.tags in
      omega (
        arith,
        length-append (padded_text e.content) (table ++ pieces),
        length-append table pieces,
        length_tags o e.tags,
        pieces_length o e.tags,
      )

  pub form_cut : form_front e ++ (pointer_data e ++ (e.id ++ e.sig)) ≡ pointer_form e
  unfolding form_front pointer_form
  form_cut = rw (← data_length_lem) (simp append_assoc)

  front_length : length (form_front e) ≡ 40 + length e.pubkey
  unfolding form_front
  front_length = simp (length-append, length_word) (omega arith)

  pub form_length : Valid e → length (pointer_form e) ≡ 168 + data_length e
  form_length v =
      ap length (sym form_cut)
      ∙ omega (
        arith,
        length-append (form_front e) (pointer_data e ++ (e.id ++ e.sig)),
        length-append (pointer_data e) (e.id ++ e.sig),
        length-append e.id e.sig,
        front_length,
        data_length_lem,
        v.id32.count,
        v.pubkey32.count,
        v.sig64.count,
      )
