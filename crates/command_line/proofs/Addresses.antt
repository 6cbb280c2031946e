-- The addresses at which clients arrive, from the values of two options.
use Rattle.std.proofs.Common.{◌≡◌, ◌∙◌, ◌++◌, ℕ, true, false, List, [], Bor, None, Option, ap, map, subst, sym}
use Rattle.std.specs.Prelude.{◌≢◌, All, codes}
use Rattle.std.proofs.lemmas.List.{map-append}
use Rattle.std.proofs.lemmas.List.Elements.{All-map}
use Rattle.std.proofs.lemmas.Simd.{map-map}
use Rattle.clap.specs.Words.{Row}
use Rattle.command_line.specs.Line.{SaysAddresses, SaysUnixMode, place_of, values_given}
use Rattle.front_end.specs.declared.plan.Address.{Address}
use Rattle.front_end.specs.declared.plan.Address.TheVariants.{Tcp, Unix}

pub says_addresses : (rows : List Row) (mode : Option ℕ) (listens sockets : List (Bor (List ℕ))) (addresses : List Address) → SaysUnixMode rows mode
    → map (λ text. text.now) listens ≡ values_given (codes "listen") rows → map (λ text. text.now) sockets ≡ values_given (codes "unix") rows
    → All (λ path. path.now ≢ []) sockets → addresses ≡ map (λ address. Tcp address) listens ++ map (λ path. Unix path mode) sockets
    → SaysAddresses rows addresses
says_addresses rows mode listens sockets addresses mode_is listens_are sockets_are named made =
    let tcp : map place_of (map (λ address. Tcp address) listens) ≡ map (λ text. (false, text, None)) (values_given (codes "listen") rows) =
    map-map place_of (λ address. Tcp address) listens ∙ sym (map-map (λ text. (false, text, None)) (λ text. text.now) listens) ∙ ap (map (λ text. (false, text, None))) listens_are in
    let unix : map place_of (map (λ path. Unix path mode) sockets) ≡ map (λ path. (true, path, mode)) (values_given (codes "unix") rows) =
    map-map place_of (λ path. Unix path mode) sockets ∙ sym (map-map (λ path. (true, path, mode)) (λ text. text.now) sockets) ∙ ap (map (λ path. (true, path, mode))) sockets_are in (
      mode,
      mode_is,
      subst (All (λ path. path ≢ [])) sockets_are (All-map (λ path. path ≢ []) (λ text. text.now) sockets named),
      ap (map place_of) made ∙ map-append place_of (map (λ address. Tcp address) listens) (map (λ path. Unix path mode) sockets) ∙ (λ i. tcp i ++ unix i),
    )
