-- what is known of bytes that were read and written
use Rattle.std.proofs.Common.{ℕ, List, [], ◌++◌, Option, Some, None, refl, sym, ap, ◌∙◌, append_assoc}
use Rattle.std.proofs.lemmas.List.{append-nil}
use Rattle.std.specs.Io.KnownBytes.{Appends, Consumes, Keeps}

pub keeps_same : (bytes : Option (List ℕ)) → Keeps bytes bytes
keeps_same None = tt
keeps_same (Some bytes) = refl

pub consumes_none : (input : Option (List ℕ)) → Consumes input input []
consumes_none None = tt
consumes_none (Some bytes) = refl

pub appends_none : (output : Option (List ℕ)) → Appends output output []
appends_none None = tt
appends_none (Some bytes) = sym (append-nil bytes)

pub consumes_on : (input mid left : Option (List ℕ)) (stream piece : List ℕ) → Consumes input mid stream → Consumes mid left piece → Consumes input left (stream ++ piece)
consumes_on None mid left stream piece first second = tt
consumes_on (Some xs) (Some ys) (Some zs) stream piece first second = first ∙ ap (λ (t : List ℕ). stream ++ t) second ∙ sym (append_assoc stream piece zs)
consumes_on (Some xs) (Some ys) None stream piece first second = elim second [ ]
consumes_on (Some xs) None left stream piece first second = elim first [ ]

pub appends_on : (output mid made : Option (List ℕ)) (text rest : List ℕ) → Appends output mid text → Appends mid made rest → Appends output made (text ++ rest)
appends_on None mid made text rest first second = tt
appends_on (Some xs) (Some ys) (Some zs) text rest first second = second ∙ ap (λ (t : List ℕ). t ++ rest) first ∙ append_assoc xs text rest
appends_on (Some xs) (Some ys) None text rest first second = elim second [ ]
appends_on (Some xs) None made text rest first second = elim first [ ]

pub consumes_kept : (input mid left : Option (List ℕ)) (stream : List ℕ) → Consumes input mid stream → Keeps mid left → Consumes input left stream
consumes_kept None mid left stream first kept = tt
consumes_kept (Some xs) (Some ys) (Some zs) stream first kept = first ∙ ap (λ (t : List ℕ). stream ++ t) (sym kept)
consumes_kept (Some xs) (Some ys) None stream first kept = elim kept [ ]
consumes_kept (Some xs) None left stream first kept = elim first [ ]
