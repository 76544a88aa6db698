-- The lengths of what the writer writes: a text with its filling takes a multiple of 8, a pointer takes 8 bytes.
-- By induction on the texts and tags.
use Prim.Native.Nat.{ℕ, ◌+◌, ◌*◌, ◌-◌, ◌%◌}
use mathlib.Core.Path.{◌≡◌, refl, ◌∙◌}
use mathlib.Core.List.{List, [], ◌∷◌}
use native.Mathlib.Omega.{arith}
use lib.ListN.{length, length-append, length-replicate}
use Rattle.event.specs.Event.{Text, Tag}
use Rattle.pointer.specs.Layout.{pointer, word}
use Rattle.pointer.specs.Written.{filling, padded_text, padded_texts, text_pointers, tag_piece, tag_size, tag_pointers}
use Rattle.pointer.proofs.Words.{length_word}

pub length_filling : (n : ℕ) → length (filling n) ≡ (8 - n % 8) % 8
unfolding filling
length_filling n = length-replicate ((8 - n % 8) % 8) 0

pub padded_eights : (t : Text) → length (padded_text t) % 8 ≡ 0
unfolding padded_text
padded_eights t = omega (arith, length-append t (filling (length t)), length_filling (length t))

pub texts_eights : (t : Tag) → length (padded_texts t) % 8 ≡ 0
texts_eights [] = refl
texts_eights (t ∷ ts) = omega (arith, length-append (padded_text t) (padded_texts ts), padded_eights t, texts_eights ts)

pub length_texts : (o : ℕ) (t : Tag) → length (text_pointers o t) ≡ 8 * length t
length_texts o [] = refl
length_texts o (t ∷ ts) =
    let e = length-append (word (pointer o (length t))) (text_pointers (o + length (padded_text t)) ts) in
    omega (arith, e, length_word (pointer o (length t)), length_texts (o + length (padded_text t)) ts)

pub length_tags : (o : ℕ) (ts : List Tag) → length (tag_pointers o ts) ≡ 8 * length ts
length_tags o [] = refl
length_tags o (t ∷ ts) =
    let e = length-append (word (pointer o (8 * length t))) (tag_pointers (o + tag_size t) ts) in
    omega (arith, e, length_word (pointer o (8 * length t)), length_tags (o + tag_size t) ts)

pub length_piece : (o : ℕ) (t : Tag) → length (tag_piece o t) ≡ tag_size t
unfolding tag_piece
length_piece o t = length-append (text_pointers (o + 8 * length t) t) (padded_texts t) ∙ rw (length_texts (o + 8 * length t) t)

pub size_eights : (t : Tag) → tag_size t % 8 ≡ 0
size_eights t = omega (arith, texts_eights t)
