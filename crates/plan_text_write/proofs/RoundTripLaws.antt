-- The round trip of the calls: "a plan has one record and one text". A text that is read to a plan is what the plan is written as, and is read as before.
use Rattle.std.specs.Prelude.{None, Result, Ok, Err}
use mathlib.Core.Path.{◌≡◌, sym, ap, ◌∙◌}
use mathlib.Core.List.{List, ◌++◌}
use Prim.Native.Nat.{ℕ, ◌≤◌, ◌<◌}
use lib.ListN.{length, get_or, take, drop}
use lib.Seq.{take-append_seam}
use Rattle.answer.specs.declared.Refusal.{Refusal}
use Rattle.plan.specs.declared.Plan.{Plan}
use Rattle.plan_grammar.specs.Meant.{plan_of}
use Rattle.plan_grammar.specs.Refused.{text_refusal}
use Rattle.plan_grammar.proofs.WrittenLaws.{text-bytes}
use Rattle.plan_text.specs.Answers.{read_answer}
use Rattle.plan_text.proofs.TextLaws.{accepted-answer, read-plan, read_back}
use Rattle.plan_text_write.specs.Answers.{write_answer, write_place}
use Rattle.plan_text_write.proofs.WriteLaws.{write_done}

module _ (s : List ℕ) (e : text_refusal s ≡ None) where
  pub read_done : read_answer s ≡ Ok (plan_of s)
  read_done = ap read_answer (sym (read_back s e)) ∙ accepted-answer (plan_of s) (read-plan s e)

  -- a text that is read is of bytes, as each written text is
  pub read-bytes : (i : ℕ) → get_or s i 0 < 256
  read-bytes i = rw (read_back s e) at (text-bytes (plan_of s) i)

  -- into a buffer that is long enough, the plan that was read
  module _ (out : List ℕ) (room : length s ≤ length out) where
    done : (Ok (length s) ≡ write_answer (plan_of s) (length out)) × (s ++ drop (length s) out ≡ write_place (plan_of s) out)
    done =
        write_done (plan_of s) out (length s) (s ++ drop (length s) out) (read-plan s e) (rw (read_back s e) room) (rw (read_back s e))
        (rw (read_back s e))

    module _ (p : Plan) (r : read_answer s ≡ Ok p) where
      plan-is : p ≡ plan_of s
      plan-is = ap (λ o. kept o) (sym r ∙ read_done)
        where
          kept : Result Plan Refusal → Plan
          kept (Ok q) = q
          kept (Err t) = p

      pub written_back : write_answer p (length out) ≡ Ok (length s)
      written_back = rw plan-is (sym done.0)

      -- "A written text fills the first bytes of its buffer; the rest is unchanged."
      pub placed-back : write_place p out ≡ s ++ drop (length s) out
      placed-back = rw plan-is (sym done.1)

      -- the bytes counted are the text
      module _ (count : ℕ) (w : write_answer p (length out) ≡ Ok count) where
        count-is : count ≡ length s
        count-is = ap (λ o. kept o) (sym w ∙ written_back)
          where
            kept : Result ℕ Refusal → ℕ
            kept (Ok n) = n
            kept (Err t) = count

        pub text-again : take count (write_place p out) ≡ s
        text-again = rw (count-is, placed-back) (take-append_seam s (drop (length s) out))

        pub read_again : read_answer (take count (write_place p out)) ≡ read_answer s
        read_again = ap read_answer text-again
