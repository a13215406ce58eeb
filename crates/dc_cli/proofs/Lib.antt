mod Results
mod Misreads
mod Fetches
mod Refused
mod Commands
mod Tops
