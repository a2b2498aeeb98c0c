-- What the words of a follower's host are.
use Rattle.std.proofs.Common.{◌≡◌, ◌≤◌, refl, ℕ, Bool, true, false, List, length}
use Rattle.std.proofs.lemmas.Bool.{leb-true}
use Rattle.std.specs.Prelude.{nat_le, ◌∷◌, [], Option, None, Some, option_and_then, option_map, unwrap_or, codes, if◌then◌else◌}
use Rattle.std.specs.Str.{bytes_eq}
use Rattle.clap.specs.Words.{Row, Text}
use Rattle.ty_base.specs.declared.limits.TheConstants.{HOST_BYTES, INPUT_BYTES}
use Rattle.ty_words.specs.Given.{gives_only, is_given, rows_at, value_of}
use Rattle.ty_words.specs.Fitting.{Fits}
use Rattle.ty_words.specs.Words.{number_or, serving, address_in, asked_by, command_of, count_or, follow_at, follow_at_as, follow_source, follow_with, following, host_in, load_with, mode_with, of_length, serve_at, serve_with, sim_with, stream_from, stream_with}
use Rattle.ty_words.specs.declared.words.Command.{Command}
use Rattle.ty_words.specs.declared.words.Command.TheVariants.{Stream, Follow, Sim, Load}
use Rattle.ty_words.specs.declared.words.TheConstants.{GREATEST_TRIES, GREATEST_WORKERS, USUAL_WORKERS}

fits_if : (b : Bool) (x y : Option Command) → Fits x → Fits y → Fits (if b then x else y)
fits_if true x y p q = p
fits_if false x y p q = q

fits_then : {X : Type 0} (f : X → Option Command) (o : Option X) → ((x : X) → Fits (f x)) → Fits (option_and_then f o)
fits_then f None h = tt
fits_then f (Some x) h = h x

fits_map : {X : Type 0} (f : X → Command) (o : Option X) → ((x : X) → Fits (Some (f x))) → Fits (option_map f o)
fits_map f None h = tt
fits_map f (Some x) h = h x

-- the host that is given is within the limit
fits_host : (f : Text → Option Command) (most : ℕ) (text : Text) → ((host : Text) → length host ≤ most → Fits (f host)) → Fits (option_and_then f (of_length most text))
fits_host f most text h =
    elim (nat_le 1 (length text)) as (λ b. Fits (option_and_then f (if b then (if nat_le (length text) most then Some text else None) else None))) [
      | true ↦
          elim (nat_le (length text) most) as (λ b. nat_le (length text) most ≡ b → Fits (option_and_then f (if b then Some text else None))) [
            | true ↦ λ e. h text (leb-true (length text) most e)
            | false ↦ λ e. tt
          ] refl
      | false ↦ tt
    ]

module _ (rows : List Row) where
  stream_fits : Fits (stream_with rows)
  stream_fits = fits_if _ _ None (fits_then stream_from (number_or 0 (value_of (codes "from") rows)) (λ n. fits_if (nat_le n INPUT_BYTES) (Some (Stream n)) None tt tt)) tt

  follow_at_fits : Fits (follow_at rows)
  follow_at_fits =
      fits_if _ _ None
      (fits_then (λ at. option_and_then (follow_at_as rows at) (host_in rows)) (address_in rows) (λ at.
      fits_host (follow_at_as rows at) HOST_BYTES (unwrap_or (value_of (codes "host") rows) (codes "follower")) (λ host short.
      fits_map (following at host (is_given rows (codes "brief"))) (count_or GREATEST_TRIES 1 (value_of (codes "tries") rows)) (λ tries. short))))
      tt

  source_fits : Fits (follow_source rows)
  source_fits = fits_if (gives_only (codes "brief" ∷ []) rows) (Some (Follow (is_given rows (codes "brief")))) None tt tt

  follow_fits : Fits (follow_with rows)
  follow_fits = fits_if (is_given rows (codes "at")) (follow_at rows) (follow_source rows) follow_at_fits source_fits

  load_fits : Fits (load_with rows)
  load_fits = fits_if _ _ None (fits_map Load (number_or 1 (value_of (codes "number") rows)) (λ n. tt)) tt

  serve_fits : Fits (serve_with rows)
  serve_fits =
      fits_if _ _ None
      (fits_then (serve_at rows) (address_in rows) (λ at. fits_map (serving at) (count_or GREATEST_WORKERS USUAL_WORKERS (value_of (codes "workers") rows)) (λ n. tt)))
      tt

  -- the modes behind each other
  module _ (mode : Text) where
    abbrev from_serve : Option Command
    from_serve = if bytes_eq mode (codes "serve") then serve_with rows else None

    abbrev from_load : Option Command
    from_load = if bytes_eq mode (codes "load") then load_with rows else from_serve

    abbrev from_sim : Option Command
    from_sim = if bytes_eq mode (codes "sim") then sim_with rows else from_load

    abbrev from_follow : Option Command
    from_follow = if bytes_eq mode (codes "follow") then follow_with rows else from_sim

    mode_fits : Fits (mode_with rows mode)
    mode_fits =
        fits_if (bytes_eq mode (codes "stream")) (stream_with rows) from_follow stream_fits (
        fits_if (bytes_eq mode (codes "follow")) (follow_with rows) from_sim follow_fits (
        fits_if (bytes_eq mode (codes "sim")) (sim_with rows) from_load (fits_if (gives_only [] rows) (Some Sim) None tt tt) (
        fits_if (bytes_eq mode (codes "load")) (load_with rows) from_serve load_fits (
        fits_if (bytes_eq mode (codes "serve")) (serve_with rows) None serve_fits tt))))

-- whatever the words are
pub command_fits : (words : List (List ℕ)) → Fits (command_of words)
unfolding command_of
command_fits words = fits_then asked_by (rows_at words) (λ rows. fits_then (mode_with rows) (value_of (codes "mode") rows) (mode_fits rows))
