-- A summary takes one more reply.
use Rattle.std.proofs.Common.{◌≡◌, ◌∙◌, ◌+◌, ◌++◌, ap, arith, length, length-append, refl, subst, sym, if◌then◌else◌, ℕ, List, [], ◌∷◌, Bool, true, false, ◌==◌, ◌||◌, append_assoc}
use Rattle.std.proofs.lemmas.List.{append-nil}
use Rattle.std.proofs.lemmas.List.Sums.{sum_by-append}
use Rattle.std.specs.Prelude.{cond}
use Rattle.sha2.specs.Hashers.{Holds256}
use Rattle.mc_gen.specs.Summary.{Sums, is_feed, is_same_line, lines_in, output_of, replies_at}
use Rattle.mc_gen.specs.declared.summary.Summary.{Summary}

output_more : (replies : List (List ℕ)) (reply : List ℕ) → output_of (replies ++ reply ∷ []) ≡ output_of replies ++ reply
output_more [] reply = append-nil reply
output_more (first ∷ replies) reply =
    ap (λ (l : List ℕ). first ++ l) (output_more replies reply) ∙ sym (append_assoc first (output_of replies) reply)

lines_more : (text more : List ℕ) → lines_in (text ++ more) ≡ lines_in text + lines_in more
lines_more text more = sum_by-append (λ byte. cond (is_feed byte) 1 0) text more

replies_more : (test : ℕ → Bool) (number : ℕ) (replies : List (List ℕ)) (reply : List ℕ)
    → replies_at test number (replies ++ reply ∷ []) ≡ replies_at test number replies ++ (if test (number + length replies) then reply else [])
replies_more test number [] reply =
    let here : number ≡ number + 0 = omega arith in
    append-nil (if test number then reply else []) ∙ ap (λ (n : ℕ). if test n then reply else []) here
replies_more test number (first ∷ replies) reply =
    let next : number + 1 + length replies ≡ number + length (first ∷ replies) = omega arith in
    let rest = replies_at test (number + 1) replies in
    ap (λ (l : List ℕ). (if test number then first else []) ++ l) (replies_more test (number + 1) replies reply ∙ ap (λ (n : ℕ). rest ++ (if test n then reply else [])) next)
    ∙ sym (append_assoc (if test number then first else []) rest (if test (number + length (first ∷ replies)) then reply else []))

same_line : (number first count length : ℕ) → number ≡ length → first ≡ count + 15
    → (number == first || number == first + 1) ≡ is_same_line count (0 + length)
same_line number first count length is from =
    let second : count + 15 + 1 ≡ count + 16 = omega arith in
    let none : 0 + length ≡ length = omega arith in rw (is, from, second, none) refl

pub sums_more : (count : ℕ) (replies : List (List ℕ)) (old new : Summary) (reply : List ℕ) → Sums count old replies
    → new.first_same ≡ old.first_same → new.replies ≡ old.replies + 1 → new.lines ≡ old.lines + lines_in reply
    → new.bytes ≡ old.bytes + length reply → ((m : List ℕ) → Holds256 old.hasher m → Holds256 new.hasher (m ++ reply))
    → new.same ≡ old.same ++ (if (old.replies == old.first_same || old.replies == old.first_same + 1) then reply else [])
    → Sums count new (replies ++ reply ∷ [])
sums_more count replies old new reply sums from counted lined sized digests kept = record {
  same_from = from ∙ sums.same_from;
  answered = omega (arith, counted, sums.answered, length-append replies (reply ∷ []));
  lines = lined ∙ ap (λ (n : ℕ). n + lines_in reply) sums.lines ∙ sym (ap lines_in (output_more replies reply) ∙ lines_more (output_of replies) reply);
  bytes = omega (arith, sized, sums.bytes, ap length (output_more replies reply), length-append (output_of replies) reply);
  digest = subst (Holds256 new.hasher) (sym (output_more replies reply)) (digests (output_of replies) sums.digest);
  same = kept ∙ ap (λ (l : List ℕ). l ++ (if (old.replies == old.first_same || old.replies == old.first_same + 1) then reply else [])) sums.same
      ∙ ap (λ (b : Bool). replies_at (is_same_line count) 0 replies ++ (if b then reply else [])) (same_line old.replies old.first_same count (length replies) sums.answered sums.same_from)
      ∙ sym (replies_more (is_same_line count) 0 replies reply);
}
