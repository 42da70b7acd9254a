pub mod EventListLemmas
